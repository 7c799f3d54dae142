-- `put_ring` meets its contract. The invariant: what is left, written over what stands there, is all coordinates written behind the count.
-- Assumes nothing.
use mathlib.Core.Path.{◌≡◌}
use Prim.Native.Nat.{◌+◌, ◌*◌, ◌≤◌}
use lib.ListN.{length, drop}
use lib.Seq.{sets}
use Rattle.frame_bytes.specs.Encoding.{each, answer_coord_bytes}
use Rattle.frame_bytes.specs.Room.{answer_coord_size}
use Rattle.frame_bytes.specs.Internal.{front_answer_coords}
use Rattle.frame_bytes.proofs.encode.put_ring.Given as goal

abbrev pub invariant-loop-i : goal.invariant-loop-i
invariant-loop-i l = (l.i ≤ l.n) × (length l.out ≡ length l.initial.out) × (sets l.initial.out l.first (each answer_coord_bytes (front_answer_coords l.ring l.origins l.n)) ≡ sets l.out
    (l.first + answer_coord_size * l.i) (each answer_coord_bytes (drop l.i (front_answer_coords l.ring l.origins l.n))))
