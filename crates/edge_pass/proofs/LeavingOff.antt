-- Leaving off the closing vertex, by the tests that the code makes. Assumes nothing.
use mathlib.Core.Path.{◌≡◌, refl, sym, ◌∙◌}
use mathlib.Core.Bool.{Bool, true, false, true≢false}
use mathlib.Core.List.{List, [], ◌∷◌, ◌++◌}
use Prim.Native.Nat.{ℕ, ◌*◌, ◌-◌, ◌≤◌, ◌<◌}
use native.Mathlib.Omega.{arith}
use lib.Ieee.{Float, nan}
use lib.ListN.{length, get_or, take, length-append}
use lib.Seq.{take_at}
use Rattle.tile.specs.declared.Coord.{Coord}
use Rattle.tile.specs.Ring.{coords, closed, close}
use Rattle.tile.proofs.Rings.{front-front, length_front, close-closed, close_open}
use Rattle.edge_pass.specs.Pass.{leave_off}

leave_off-few : (r : List Coord) → length r < 2 → leave_off r ≡ r
unfolding leave_off
leave_off-few [] h = refl
leave_off-few (p ∷ []) h = refl
leave_off-few (p ∷ q ∷ r) h = absurd (omega arith)

leave_off-closed : (r : List Coord) → 2 ≤ length r → closed r ≡ true → leave_off r ≡ take (length r - 1) r
unfolding leave_off
leave_off-closed [] h e = absurd (omega arith)
leave_off-closed (p ∷ []) h e = absurd (omega arith)
leave_off-closed (p ∷ q ∷ r) h e = rw e

leave_off_open : (r : List Coord) → closed r ≡ false → leave_off r ≡ r
unfolding leave_off
leave_off_open [] e = refl
leave_off_open (p ∷ []) e = refl
leave_off_open (p ∷ q ∷ r) e = rw e

-- of the n vertices at the front of a slice
module _ (s : List Float) (n : ℕ) (h : 2 * n ≤ length s) where
  pub left-few : n < 2 → coords (take (2 * n) s) ≡ leave_off (coords (take (2 * n) s))
  left-few l = sym (leave_off-few (coords (take (2 * n) s)) (omega (arith, length_front s n h)))

  pub left-closed : 2 ≤ n → closed (coords (take (2 * n) s)) ≡ true → coords (take (2 * (n - 1)) s) ≡ leave_off (coords (take (2 * n) s))
  left-closed l e =
      let m = length_front s n h in
      front-front s (n - 1) n (omega arith) ∙ sym (leave_off-closed (coords (take (2 * n) s)) (omega arith) e ∙ rw m)

  pub left_open : closed (coords (take (2 * n) s)) ≡ false → coords (take (2 * n) s) ≡ leave_off (coords (take (2 * n) s))
  left_open e = sym (leave_off_open (coords (take (2 * n) s)) e)

-- ---- what closing appends is left off again

close_more : (l : List Coord) → closed l ≡ false → 2 ≤ length (close l)
unfolding closed close
close_more [] f = absurd (true≢false f)
close_more (p ∷ l) f = rw f (omega (arith, length-append (p ∷ l) (p ∷ [])))

pub leave_off-close : (r : List Coord) → closed (close r) ≡ true → leave_off (close r) ≡ leave_off r
leave_off-close r e = go (closed r) refl
  where
    go : (t : Bool) → closed r ≡ t → leave_off (close r) ≡ leave_off r
    go true h = rw (close-closed r h)
    go false h =
        let z : Coord = record { x = nan; y = nan } in
        let q = get_or r 0 z ∷ [] in
        let o = close_open r z h in
        let n = length-append r q in
        let m : length (r ++ q) - 1 ≡ length r = omega arith in
        let k = leave_off-closed (close r) (close_more r h) e in
        k ∙ rw (o, m) (take_at r q (length r) refl) ∙ sym (leave_off_open r h)
