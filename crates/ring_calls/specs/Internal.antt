-- What the functions of the ring call say to each other. No contract of an entry point reaches it, so a reader of those can skip this
-- file. Definitions only.
use Rattle.std.specs.Prelude.{◌≡◌, List, ◌++◌, ℕ, ◌*◌, ◌-◌, Float, length, take, replicate}
use Rattle.binary64.specs.Slices.{zeros}
use Rattle.tile.specs.declared.Coord.{Coord}
use Rattle.tile.specs.declared.TileBounds.{TileBounds}
use Rattle.tile.specs.Ring.{coords, flat}
use Rattle.sutherland_hodgman.specs.Clip.{clip_ring}
use Rattle.sutherland_hodgman.specs.Origins.{clip_origins}
use Rattle.sutherland_hodgman.specs.Promise.{Promise}

-- the cut ring stands at the front of the output, r vertices long, and zeros past it; demand 3 holds of what stands there
pub record PaddedCut (bounds : TileBounds) (ring : List Coord) (out r : ℕ) (after : List Float) : Type 0 where
  pub count : r ≡ length (clip_ring bounds ring)
  pub numbers : after ≡ flat (clip_ring bounds ring) ++ zeros (out - 2 * r)
  pub promise : Promise bounds ring (coords (take (2 * r) after))

-- the origins of the cut ring, r vertices long, stand at the front of their output, `out` long, and zeros past them
abbrev pub PaddedOrigins : TileBounds → List Coord → ℕ → ℕ → List ℕ → Type 0
PaddedOrigins bounds ring out r after = after ≡ clip_origins bounds ring ++ replicate (out - r) 0
