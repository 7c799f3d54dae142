-- A list compared from its front, element by element: what is left to compare gives the answer. Assumes nothing.
use mathlib.Core.Path.{◌≡◌, refl, sym, ◌∙◌, ap}
use mathlib.Core.Bool.{Bool, true, false, ◌&&◌, and-false}
use mathlib.Core.List.{List, [], ◌∷◌, map}
use Prim.Native.Nat.{ℕ, ◌+◌, ◌<◌, ◌≤◌}
use native.Mathlib.Numerals.{add-one}
use native.Mathlib.Omega.{arith}
use lib.Dec.{eqb}
use lib.ListN.{length, get_or, drop, drop_of_length-le}
use lib.Seq.{drop-cons}
use Rattle.std.specs.List.{list_all}
use Rattle.std.proofs.lemmas.List.{length-map, get_or-map, drop-map}
use Rattle.std.proofs.lemmas.List.Folds.{list_all-map}
use Rattle.replay.specs.Lent.{are_all, holds}

-- whether all have the bits of x
pub all_mapped : {A : Type 0} (bits : A → ℕ) (bs : List ℕ) (l : List A) (x : A) (b : ℕ) (r : Bool) → bs ≡ map bits l → bits x ≡ b
    → r ≡ list_all (λ y. eqb (bits y) (bits x)) l → are_all bs b ≡ r
unfolding are_all
all_mapped bits bs l x b r e h p = rw (e, ← h) (list_all-map (λ y. eqb y (bits x)) bits l ∙ sym p)

-- whether a list holds these at its front
pub record HoldsFrom (m : ℕ) (f l : List ℕ) (i : ℕ) : Type 0 where
  pub read : i ≤ length f
  pub left : holds m f l ≡ holds m (drop i f) (drop i l)

pub holds_short : (m : ℕ) (f l : List ℕ) → length l < length f → holds m f l ≡ false
unfolding holds
holds_short m [] l h = absurd (omega arith)
holds_short m (x ∷ f) [] h = refl
holds_short m (x ∷ f) (y ∷ l) h = rw (holds_short m f l (omega arith)) (and-false (eqb y x))

pub holds_start : (m : ℕ) (f l : List ℕ) → HoldsFrom m f l 0
holds_start m f l = record { read = omega arith; left = refl }

holds_at : (m : ℕ) (f l : List ℕ) (i : ℕ) → i < length f → i < length l
    → holds m (drop i f) (drop i l) ≡ eqb (get_or l i 0) (get_or f i 0) && holds m (drop (i + 1) f) (drop (i + 1) l)
unfolding holds
holds_at m f l i h k = rw (add-one i, drop-cons l i 0 k, drop-cons f i 0 h)

pub holds-step : (m : ℕ) (f l : List ℕ) (i : ℕ) → i < length f → i < length l → eqb (get_or l i 0) (get_or f i 0) ≡ true → HoldsFrom m f l i
    → HoldsFrom m f l (i + 1)
holds-step m f l i h k e p = record { read = omega arith; left = p.left ∙ holds_at m f l i h k ∙ rw e }

pub holds_miss : (m : ℕ) (f l : List ℕ) (i : ℕ) → i < length f → i < length l → eqb (get_or l i 0) (get_or f i 0) ≡ false
    → HoldsFrom m f l i → holds m f l ≡ false
holds_miss m f l i h k e p = p.left ∙ holds_at m f l i h k ∙ rw e

pub holds_end : (m : ℕ) (f l : List ℕ) (i : ℕ) → length f ≤ i → HoldsFrom m f l i → holds m f l ≡ are_all (drop (length f) l) m
unfolding holds
holds_end m f l i h p =
    let e : i ≡ length f = omega (arith, p.read) in
    p.left ∙ rw (drop_of_length-le f h, e)

-- by the bits of numbers
module _ {A : Type 0} (bits : A → ℕ) (m : ℕ) (f l : List A) where
  pub short_mapped : length l < length f → holds m (map bits f) (map bits l) ≡ false
  short_mapped h = holds_short m (map bits f) (map bits l) (rw (length-map l bits, length-map f bits) h)

  module _ (i : ℕ) (x y : A) (h : i < length f) (k : i < length l) (at-l : x ≡ get_or l i x) (at-f : y ≡ get_or f i y)
      (before : HoldsFrom m (map bits f) (map bits l) i) where
    pub miss_mapped : eqb (bits x) (bits y) ≡ false → holds m (map bits f) (map bits l) ≡ false
    miss_mapped p =
        holds_miss m (map bits f) (map bits l) i (rw (length-map f bits) h) (rw (length-map l bits) k)
        (rw (get_or-map bits l i x 0 k ∙ ap bits (sym at-l), get_or-map bits f i y 0 h ∙ ap bits (sym at-f)) p) before

    pub step_mapped : eqb (bits x) (bits y) ≡ true → HoldsFrom m (map bits f) (map bits l) (i + 1)
    step_mapped p =
        holds-step m (map bits f) (map bits l) i (rw (length-map f bits) h) (rw (length-map l bits) k)
        (rw (get_or-map bits l i x 0 k ∙ ap bits (sym at-l), get_or-map bits f i y 0 h ∙ ap bits (sym at-f)) p) before

  pub end_mapped : (i : ℕ) (r : Bool) → length f ≤ i → HoldsFrom m (map bits f) (map bits l) i
      → r ≡ list_all (λ y. eqb (bits y) m) (drop (length f) l) → holds m (map bits f) (map bits l) ≡ r
  unfolding are_all
  end_mapped i r h before p =
      holds_end m (map bits f) (map bits l) i (rw (length-map f bits) h) before
      ∙ rw (length-map f bits, drop-map bits (length f) l) (list_all-map (λ y. eqb y m) bits (drop (length f) l) ∙ sym p)
