-- Bytes turned into their hexadecimal in place, from the last to the first. Assumes nothing.
use mathlib.Core.Path.{◌≡◌, refl, sym, ◌∙◌, ap, subst}
use mathlib.Core.List.{List, [], ◌∷◌, ◌++◌, append_assoc}
use Prim.Native.Nat.{ℕ, suc, ◌+◌, ◌*◌, ◌-◌, ◌≤◌, ◌<◌}
use native.Mathlib.Numerals.{add-one}
use native.Mathlib.Omega.{arith}
use lib.ListN.{length, get_or, take, drop, set, length-append, length-take, drop_of_length-le}
use lib.Seq.{sets, sets-eq, set_at, take-take, take-set-le, get_or-take, drop-cons, drop_at, length-take-le, length-sets}
use Rattle.binary64.specs.Slices.{over}
use Rattle.lines.specs.Lines.{newline, lower_hex, hex_line}

pub length-lower_hex : (l : List ℕ) → length (lower_hex l) ≡ 2 * length l
unfolding lower_hex
length-lower_hex [] = refl
length-lower_hex (b ∷ l) = omega (arith, length-lower_hex l)

-- the first k of count bytes are still as they were, and the hexadecimal of the others stands behind their places
pub record Hexed (old : List ℕ) (count k : ℕ) (l : List ℕ) : Type 0 where
  pub few : k ≤ count
  pub same : length l ≡ length old
  pub front : take k l ≡ take k old
  pub back : drop (2 * k) l ≡ lower_hex (drop k (take count old)) ++ drop (2 * count) old

pub hexed_start : (old : List ℕ) (count : ℕ) → Hexed old count count old
unfolding lower_hex
hexed_start old count = record {
  few = omega arith;
  same = refl;
  front = refl;
  back =
      let short : length (take count old) ≤ count = omega (arith, length-take count old) in
      rw (drop_of_length-le (take count old) short);
}

module _ {old l : List ℕ} {count : ℕ} (room : 2 * count ≤ length old) where
  -- the byte at j, with j + 1 bytes left, is still as it was
  byte_left : (j : ℕ) → Hexed old count (suc j) l → get_or l j 0 ≡ get_or (take count old) j 0
  byte_left j h =
      let under : j < suc j = omega arith in
      let few : j < count = omega (arith, h.few) in
      sym (get_or-take (suc j) l j 0 under) ∙ ap (λ (s : List ℕ). get_or s j 0) h.front ∙ get_or-take (suc j) old j 0 under
      ∙ sym (get_or-take count old j 0 few)

  hexed_suc : (j : ℕ) → Hexed old count (suc j) l → Hexed old count j (sets l (2 * j) (lower_hex (get_or l j 0 ∷ [])))
  unfolding lower_hex
  hexed_suc j h =
      let x = get_or l j 0 in
      let few : j < count = omega (arith, h.few) in
      let fits : 2 * j + length (lower_hex (x ∷ [])) ≤ length l = omega (arith, h.same, room) in
      let next : 2 * j + 2 ≡ 2 * suc j = omega arith in
      let inside : j < length (take count old) = omega (arith, length-take count old, room) in
      let le : j ≤ 2 * j = omega arith in
      let le' : j ≤ suc (2 * j) = omega arith in
      let le'' : j ≤ suc j = omega arith in
      record {
        few = omega (arith, h.few);
        same = length-sets l (2 * j) (lower_hex (x ∷ [])) ∙ h.same;
        front = rw (
          take-set-le j _ (suc (2 * j)) _ le',
          take-set-le j l (2 * j) _ le,
          ← take-take j (suc j) l le'',
          ← take-take j
              (suc j) old le'',
          h.front,
        );
        back =
            ap (drop (2 * j)) (sets-eq (lower_hex (x ∷ [])) l (2 * j) fits ∙ append_assoc (take (2 * j) l) (lower_hex (x ∷ [])) _)
            ∙ drop_at (take (2 * j) l) (lower_hex (x ∷ []) ++ drop (2 * j + 2) l) (2 * j) (length-take-le (2 * j) l (omega (arith, fits)))
            ∙ rw (next, h.back, drop-cons (take count old) j 0 inside, byte_left j h);
      }

  pub hexed_step : (k : ℕ) → 0 < k → Hexed old count k l → Hexed old count (k - 1) (sets l (2 * (k - 1)) (lower_hex (get_or l (k - 1) 0 ∷ [])))
  hexed_step k h u = let e : k ≡ suc (k - 1) = omega arith in hexed_suc (k - 1) (subst (λ (n : ℕ). Hexed old count n l) e u)

pub hexed_end : {old l : List ℕ} {count k : ℕ} → k ≤ 0 → Hexed old count k l → l ≡ lower_hex (take count old) ++ drop (2 * count) old
hexed_end {old} {l} {count} {k} h u =
    let e : k ≡ 0 = omega arith in
    (subst (λ (n : ℕ). Hexed old count n l) e u).back

-- a newline behind the hexadecimal makes a line
module _ (old : List ℕ) (count : ℕ) (room : 2 * count < length old) where
  counted : length (lower_hex (take count old)) ≡ 2 * count
  counted = length-lower_hex (take count old) ∙ ap (λ (n : ℕ). 2 * n) (length-take-le count old (omega (arith, room)))

  pub line-length : length (hex_line (take count old)) ≡ 2 * count + 1
  line-length = length-append (lower_hex (take count old)) (newline ∷ []) ∙ rw counted

  pub line-ended : {l : List ℕ} → l ≡ lower_hex (take count old) ++ drop (2 * count) old → set l (2 * count) newline ≡ over
      (hex_line (take count old)) old
  line-ended {l} e =
      rw (
        e,
        drop-cons old (2 * count) 0 room,
        set_at (lower_hex (take count old)) (get_or old (2 * count) 0) (drop (suc (2 * count)) old)
            newline (2 * count) counted,
        line-length,
        add-one,
        append_assoc,
      )
