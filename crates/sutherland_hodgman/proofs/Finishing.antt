-- Finishing a ring after the four passes, by the test that the code makes. Assumes nothing.
use mathlib.Core.Path.{◌≡◌}
use mathlib.Core.List.{List}
use Prim.Native.Nat.{ℕ, ◌*◌, ◌≤◌, ◌<◌}
use native.Mathlib.Omega.{arith}
use lib.Ieee.{Float}
use lib.ListN.{length, take}
use borrow.Author.Tests.{le-leb, lt-leb}
use Rattle.tile.specs.Ring.{coords, flat, close}
use Rattle.tile.specs.Internal.{Written}
use Rattle.tile.proofs.Rings.{length_front}
use Rattle.sutherland_hodgman.specs.Clip.{finish}

-- of the n vertices at the front of a slice
module _ (s : List Float) (n : ℕ) (h : 2 * n ≤ length s) where
  pub finish-few : n < 3 → Written (finish (coords (take (2 * n) s))) s 0 s
  unfolding finish flat
  finish-few l =
      let t = lt-leb 3 (length (coords (take (2 * n) s))) (omega (arith, length_front s n h)) in record { count = rw t; numbers = rw t }

  pub finish-close : 3 ≤ n → finish (coords (take (2 * n) s)) ≡ close (coords (take (2 * n) s))
  unfolding finish
  finish-close l = rw (le-leb 3 (length (coords (take (2 * n) s))) (omega (arith, length_front s n h)))
