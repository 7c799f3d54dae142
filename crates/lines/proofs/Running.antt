-- What is known of a line, as characters are read. Assumes nothing.
use mathlib.Core.Path.{◌≡◌, refl, sym, ◌∙◌, ap, subst}
use mathlib.Core.List.{List, [], ◌∷◌, ◌++◌}
use Prim.Native.Nat.{ℕ, ◌+◌, ◌*◌, ◌-◌, ◌≤◌, ◌<◌}
use native.Mathlib.Numerals.{add-one}
use native.Mathlib.Omega.{arith}
use lib.ListN.{length, get_or, take, drop, set, length-drop, take-append-drop}
use lib.Seq.{length-take-le, take-append-add, drop-cons, drop-drop}
use borrow.Author.Tests.{lt-ltb, ne_eqb}
use Rattle.frame_bytes.specs.Frame.{longest}
use Rattle.lines.specs.Lines.{newline, digit}
use Rattle.lines.specs.LineStep.{ended, line_length}
use Rattle.lines.specs.Internal.{State, whole, half, take_digit, after, state_after, chars_between, ReadsOn}
use Rattle.lines.proofs.Characters.{ended-append}
use Rattle.lines.proofs.Kept.{byte_kept}

-- ---- characters and more characters

pub state_append : (x y : List ℕ) (st : State) → state_after st (x ++ y) ≡ state_after (state_after st x) y
unfolding state_after
state_append [] y st = refl
state_append (b ∷ x) y st = state_append x y (after st b)

pub take-both : (w v : ℕ) (l : List ℕ) → w ≤ length l → take (w + v) l ≡ take w l ++ take v (drop w l)
take-both w v l h =
    let n : length (take w l) ≡ w = length-take-le w l h in
    let e = take-append-add (take w l) (drop w l) v in
    rw (n, take-append-drop w l) at e

chars_both : (block : List ℕ) (a b c : ℕ) → a ≤ b → b ≤ c → c ≤ length block → chars_between a c block ≡ chars_between a b block
    ++ chars_between b c block
chars_both block a b c h k m =
    let n : c - a ≡ b - a + (c - b) = omega arith in
    let there : a + (b - a) ≡ b = omega arith in
    let rest : drop (b - a) (drop a block) ≡ drop b block = drop-drop (b - a) a block ∙ rw there in
    rw n (take-both (b - a) (c - b) (drop a block) (omega (arith, length-drop a block)) ∙ rw rest)

-- ---- one character, no newline

-- a newline is no digit
digit-not-newline : (b : ℕ) → digit b < 16 → b ≡ newline → ⊥
unfolding digit
digit-not-newline b h e = let z : digit newline < 16 = subst (λ (n : ℕ). digit n < 16) e h in omega (arith, z)

after-digit : (st : State) (b : ℕ) → digit b < 16 → after st b ≡ take_digit st (digit b)
unfolding after
after-digit st b h = rw (lt-ltb (digit b) 16 h)

-- ---- reading on within a line

pub passes_start : (block : List ℕ) (from : ℕ) (st : State) → from ≤ length block → ReadsOn block from st from st
unfolding state_after ended
passes_start block from st h =
    let none : from - from ≡ 0 = omega arith in
    record { forward = omega arith; within = h; in-line = refl; reached = rw none; no-newline = rw none }

pub passes_then : {block : List ℕ} {a b c : ℕ} {x y z : State} → ReadsOn block a x b y → ReadsOn block b y c z → ReadsOn block a x c z
passes_then {block} {a} {b} {c} {x} {y} r s =
    let both : chars_between a c block ≡ chars_between a b block ++ chars_between b c block = chars_both block a b c r.forward
    s.forward s.within in
    record {
      forward = omega (arith, r.forward, s.forward);
      within = s.within;
      in-line = r.in-line ∙ s.in-line;
      reached =
          s.reached ∙ ap (λ (st : State). state_after st (chars_between b c block)) r.reached
          ∙ sym (ap (state_after x) both ∙ state_append (chars_between a b block) (chars_between b c block) x);
      no-newline = ap ended both ∙ ended-append (chars_between a b block) (chars_between b c block) ∙ rw (s.no-newline, r.no-newline);
    }

-- a character that is no newline is not the line's last
not_last : (block : List ℕ) (at : ℕ) → at < length block → (get_or block at 0 ≡ newline → ⊥) → at + line_length (drop at block) ≡ at + 1
    + line_length (drop (at + 1) block)
unfolding line_length
not_last block at h other = rw (add-one, drop-cons block at 0 h, ne_eqb (get_or block at 0) newline other) (omega arith)

-- one character more
pub passes_char : (block : List ℕ) (at : ℕ) (st : State) → at < length block → (get_or block at 0 ≡ newline → ⊥)
    → ReadsOn block at st (at + 1) (after st (get_or block at 0))
unfolding state_after ended
passes_char block at st h other =
    let n : at + 1 - at ≡ 1 = omega arith in
    let one : chars_between at (at + 1) block ≡ get_or block at 0 ∷ [] = rw (n, drop-cons block at 0 h) in
    record {
      forward = omega arith;
      within = omega arith;
      in-line = not_last block at h other;
      reached = sym (ap (state_after st) one);
      no-newline = ap ended one ∙ rw (ne_eqb (get_or block at 0) newline other);
    }

-- a pair of digits more, whose byte is kept
pub passes_pair : (block kept : List ℕ) (at n : ℕ) → longest ≤ length kept → n < longest → at + 1 < length block
    → digit (get_or block at 0) < 16 → digit (get_or block (at + 1) 0) < 16
    → ReadsOn block at (whole (take n kept)) (at + 2)
    (whole (take (n + 1) (set kept n (digit (get_or block at 0) * 16 + digit (get_or block (at + 1) 0)))))
passes_pair block kept at n sized h inside first second =
    let a = get_or block at 0 in
    let b = get_or block (at + 1) 0 in
    let st = whole (take n kept) in
    let both = passes_then (passes_char block at st (omega arith) (digit-not-newline a first))
    (passes_char block (at + 1) (after st a) inside (digit-not-newline b second)) in
    let next : at + 1 + 1 ≡ at + 2 = omega arith in
    let kept_byte : after (after st a) b ≡ whole (take (n + 1) (set kept n (digit a * 16 + digit b))) =
    rw (after-digit st a first, after-digit (half (take n kept) (digit a)) b second) (sym (byte_kept kept n (digit a) (digit b) sized h)) in
    rw (next, kept_byte) at both
