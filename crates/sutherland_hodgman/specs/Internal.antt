-- What the functions of the ring cutter say to each other and to the crates above. No contract of an entry point reaches it, so a reader
-- of those can skip this file; `clip_ring` says demand 3 by `RingCut`. Definitions only.
use Rattle.std.specs.Prelude.{List, ℕ, ◌≤◌, ◌<◌, ◌*◌, ◌^◌, Float, length, take}
use Rattle.tile.specs.declared.Coord.{Coord}
use Rattle.tile.specs.declared.TileBounds.{TileBounds}
use Rattle.tile.specs.declared.Edge.TheVariants.{Left, Right, Bottom, Top}
use Rattle.tile.specs.Ring.{coords}
use Rattle.tile.specs.Internal.{Stands}
use Rattle.edge_pass.specs.Pass.{pass}
use Rattle.edge_pass.specs.Origins.{pass_origins}
use Rattle.sutherland_hodgman.specs.Clip.{clip_ring}
use Rattle.sutherland_hodgman.specs.Growth.{B, most_coordinates}
use Rattle.sutherland_hodgman.specs.Origins.{finish_origins, positions_from}
use Rattle.sutherland_hodgman.specs.Promise.{Promise}

-- the passes but the last
unfoldable pub three_passes : TileBounds → List Coord → List Coord
three_passes b r = pass Bottom b (pass Right b (pass Left b r))

-- a ring of n vertices at the front of a slice of length `ring` can be cut with a scratch slice and an output of these lengths
pub record CutterRoom (n ring scratch out : ℕ) : Type 0 where
  pub vertices : 2 * n ≤ ring
  pub scratch-room : 2 * B n ≤ scratch
  pub output-room : 2 * B n ≤ out

-- its origins have room in a scratch slice and an output of these lengths, and every position in it is below the lines' numbers
pub record OriginRoom (n scratch out : ℕ) : Type 0 where
  pub positions : n ≤ most_coordinates
  pub scratch-room : B n ≤ scratch
  pub output-room : B n ≤ out

-- an origin, which is a position or a line's number, fits 16 bits
abbrev pub Fits16 : ℕ → Type 0
Fits16 o = o < 2 ^ 16

-- the origins after the passes but the last
unfoldable pub three_passes_origins : TileBounds → List Coord → List ℕ
three_passes_origins b r =
    let left = pass Left b r in
    pass_origins Bottom b (pass Right b left) (pass_origins Right b left (pass_origins Left b r (positions_from 0 (length r))))

-- the origins after the last pass and the closing, of a ring that has the origins os
unfoldable pub top_origins : TileBounds → List Coord → List ℕ → List ℕ
top_origins b r os = finish_origins (pass Top b r) (pass_origins Top b r os)

-- the cut ring stands at the front of the slice, r vertices long; demand 3 holds of what stands there; what lies past it is left open
pub record RingCut (bounds : TileBounds) (ring : List Coord) (r : ℕ) (after : List Float) : Type 0 where
  pub stands : Stands (clip_ring bounds ring) r after
  pub promise : Promise bounds ring (coords (take (2 * r) after))
