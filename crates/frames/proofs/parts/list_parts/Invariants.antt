-- `list_parts` meets its contract. The invariant: the parts that are left are there and have room, and what is listed with what is left to
-- list is all that was to be listed. Assumes nothing.
use mathlib.Core.Path.{◌≡◌}
use Prim.Native.Nat.{◌-◌, ◌≤◌}
use lib.ListN.{length}
use Rattle.frame_bytes.specs.Frame.{head_bytes}
use Rattle.frame_parts.specs.Internal.{lengths_of}
use Rattle.frames.specs.Answer.{list_parts}
use Rattle.frames.specs.Internal.{parts_from, Few, PartsRoom}
use Rattle.frames.proofs.Listings.{AheadParts}
use Rattle.frames.proofs.parts.list_parts.Given as goal

abbrev pub invariant-loop-i : goal.invariant-loop-i
invariant-loop-i l = PartsRoom l.frame l.at (l.parts - l.i) (lengths_of l.ring l.a l.a_origins l.b l.b_origins) (length l.order) (length l.out) l.listing.next
    × Few l.i l.listing × (l.i ≤ l.parts)
    × AheadParts (list_parts l.flags l.bounds 0 (parts_from l.frame head_bytes l.parts)) l.initial.listing l.initial.out
    (list_parts l.flags l.bounds l.i (parts_from l.frame l.at (l.parts - l.i))) l.listing l.out
    × (length l.ring ≡ length l.initial.ring) × (length l.a ≡ length l.initial.a) × (length l.a_origins ≡ length l.initial.a_origins) × (length l.b ≡ length l.initial.b)
    × (length l.b_origins ≡ length l.initial.b_origins) × (length l.order ≡ length l.initial.order) × (length l.out ≡ length l.initial.out)
