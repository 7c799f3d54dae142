-- Parts of a block answered one behind the other. Assumes nothing.
use mathlib.Core.Path.{◌≡◌, sym, ◌∙◌, ap}
use mathlib.Core.List.{List, [], ◌∷◌, ◌++◌, append-nil, append_assoc}
use Prim.Native.Nat.{ℕ, ◌+◌, ◌-◌, ◌≤◌}
use native.Mathlib.Omega.{arith}
use lib.ListN.{length, take, drop, length-append, length-drop, drop_of_length-le, take-append-drop}
use lib.Seq.{length-take-le, take-append_seam, drop-append_seam, drop-drop}
use Rattle.binary64.specs.Slices.{over}
use Rattle.binary64.proofs.Fill.{tail_part}
use Rattle.frame_bytes.specs.Encoding.{each}
use Rattle.lines.specs.declared.line.Line.{Line}
use Rattle.lines.specs.Lines.{lines_of, printed}
use Rattle.lines.specs.LineStep.{chars_of, ended, printed_now, GoesOn, Prints}
use Rattle.lines.proofs.Characters.{ended_behind, ended-append, chars_no-newline}
use Rattle.lines.proofs.Running.{take-both}

-- ---- written behind what was written before

module _ (x y out out₁ out₂ : List ℕ) (first : out₁ ≡ over x out) (front : take (length x) out₂ ≡ take (length x) out₁)
    (second : drop (length x) out₂ ≡ over y (drop (length x) out₁)) where
  kept-front : take (length x) out₂ ≡ x
  kept-front = front ∙ rw first (take-append_seam x (drop (length x) out))

  rest_then : drop (length x) out₂ ≡ y ++ drop (length (x ++ y)) out
  rest_then = second ∙ rw (first, drop-append_seam x (drop (length x) out), drop-drop (length y) (length x) out, length-append x y)

  over-then : out₂ ≡ over (x ++ y) out
  over-then = sym (take-append-drop (length x) out₂) ∙ rw (kept-front, rest_then) (sym (append_assoc x y _))

-- ---- characters and more characters

module _ (x : List ℕ) (line : Line) (kept : List ℕ) (line₁ : Line) (kept₁ : List ℕ) (on : GoesOn x line kept line₁ kept₁) (y : List ℕ) where
  pub now_then : printed_now line kept (x ++ y) ≡ printed_now line kept x ++ printed_now line₁ kept₁ y
  unfolding each lines_of
  now_then =
      rw (← append_assoc (chars_of line kept) x y, ended-append (chars_of line kept ++ x) y, ended-append (chars_of line₁ kept₁) y)
      (by_end (ended y))
    where
      by_end : (e : List ℕ) → printed (ended_behind (chars_of line kept ++ x) e) ≡ printed_now line kept x ++ printed
          (ended_behind (chars_of line₁ kept₁) e)
      by_end [] = rw (chars_no-newline line₁ kept₁) (sym (append-nil (printed_now line kept x)))
      by_end (b ∷ e) = rw (append_assoc (chars_of line kept) x (b ∷ e)) (on (b ∷ e))

  pub goes_then : (line₂ : Line) (kept₂ : List ℕ) → GoesOn y line₁ kept₁ line₂ kept₂ → GoesOn (x ++ y) line kept line₂ kept₂
  goes_then line₂ kept₂ next rest =
      rw (append_assoc x y rest, now_then, append_assoc (printed_now line kept x) (printed_now line₁ kept₁ y) _)
      (on (y ++ rest) ∙ ap (λ (l : List ℕ). printed_now line kept x ++ l) (next rest))

-- an answer to the characters that follow, behind what was written before
pub prints-then : {x y : List ℕ} {line line₁ line₂ : Line} {kept kept₁ kept₂ out out₁ out₂ : List ℕ} {w v : ℕ}
    → Prints x line kept out w line₁ kept₁ out₁
    → Prints y line₁ kept₁ (drop w out₁) v line₂ kept₂ (drop w out₂)
    → take w out₂ ≡ take w out₁ → length out₁ ≡ length out → Prints (x ++ y) line kept out (w + v) line₂ kept₂ out₂
prints-then {x} {y} {line} {line₁} {line₂} {kept} {kept₁} {kept₂} {out} {out₁} {out₂} {w} {v} p q front sized =
    let before = printed_now line kept x in
    let behind = printed_now line₁ kept₁ y in
    let text : printed_now line kept (x ++ y) ≡ before ++ behind = now_then x line kept line₁ kept₁ p.goes_on y in
    record {
      count = omega (arith, p.count, q.count, ap length text, length-append before behind);
      output = rw text (over-then before behind out out₁ out₂ p.output (rw p.count at front) (rw p.count at q).output);
      room = omega (arith, p.room, q.room, length-drop w out₁);
      goes_on = goes_then x line kept line₁ kept₁ p.goes_on y line₂ kept₂ q.goes_on;
    }

-- of a block, one part behind another
pub parts_then : (block : List ℕ) (a b : ℕ) {line line₁ line₂ : Line} {kept kept₁ kept₂ out out₁ out₂ : List ℕ} {w v : ℕ}
    → a ≤ length block → Prints (take a block) line kept out w line₁ kept₁ out₁
    → Prints (take b (drop a block)) line₁ kept₁ (drop w out₁) v line₂ kept₂ (drop w out₂) → take w out₂ ≡ take w out₁
    → length out₁ ≡ length out
    → Prints (take (a + b) block) line kept out (w + v) line₂ kept₂ out₂
parts_then block a b h p q front sized = rw (take-both a b block h) (prints-then p q front sized)

-- ---- what is left of a block, and the part of the output behind what waits there, as they are lent and put back

module _ (block out part out' : List ℕ) (from waiting : ℕ) (h : waiting ≤ length out)
    (put : out' ≡ take waiting out ++ (part ++ drop (length out - waiting) (drop waiting out))) where
  put_back : out' ≡ take waiting out ++ part
  put_back =
      let l : length (drop waiting out) ≤ length out - waiting = omega (arith, length-drop waiting out) in
      let none : drop (length out - waiting) (drop waiting out) ≡ [] = drop_of_length-le (drop waiting out) l in
      put ∙ rw (none, append-nil)

  pub part-prints : (taken : ℕ) {line line' : Line} {kept kept' : List ℕ} {written : ℕ}
      → Prints (take taken (take (length block - from) (drop from block))) line kept (take (length out - waiting) (drop waiting out))
      written line' kept' part
      → Prints (take taken (drop from block)) line kept (drop waiting out) written line' kept' (drop waiting out')
      × (take waiting out' ≡ take waiting out)
  part-prints taken p =
      let n : length (take waiting out) ≡ waiting = length-take-le waiting out h in
      let there : drop waiting out' ≡ part = rw put_back (let e = drop-append_seam (take waiting out) part in rw n at e) in
      let stays : take waiting out' ≡ take waiting out = rw put_back (let e = take-append_seam (take waiting out) part in rw n at e) in
      (rw there (rw (tail_part block from, tail_part out waiting) at p), stays)

-- ---- a block whose answers are written out in between

pub goes_on-then : (block : List ℕ) (at taken : ℕ) (line line₁ line₂ : Line) (kept kept₁ kept₂ : List ℕ) → at ≤ length block
    → GoesOn (take at block) line kept line₁ kept₁ → GoesOn (take taken (drop at block)) line₁ kept₁ line₂ kept₂
    → GoesOn (take (at + taken) block) line kept line₂ kept₂
goes_on-then block at taken line line₁ line₂ kept kept₁ kept₂ h on next =
    rw (take-both at taken block h) (goes_then (take at block) line kept line₁ kept₁ on (take taken (drop at block)) line₂ kept₂ next)
