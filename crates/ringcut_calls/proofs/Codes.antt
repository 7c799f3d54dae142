-- An answer's code fits an i64. Assumes nothing.
use mathlib.Core.Path.{◌≡◌}
use mathlib.Core.List.{List}
use Prim.Native.Nat.{ℕ, ◌*◌, ◌≤◌}
use native.Mathlib.Omega.{arith}
use lib.Ieee.{Float}
use lib.IntN.{pos}
use lib.ListN.{length}
use mir.Syntax.{w64}
use mir.Val.{SFits}
use Rattle.std.specs.Prelude.{Ok}
use borrow.Author.Rules.{sfits_of}
use Rattle.sutherland_hodgman.specs.Growth.{most_coordinates}
use Rattle.mend.specs.MendCall.{mend_call_answer}
use Rattle.mend.proofs.Offered.{mended_count}
use Rattle.frames.specs.FrameCall.{frame_call_answer}
use Rattle.frames.proofs.Entries.{answered_few}

pub count_fits : (n : ℕ) → n ≤ 8 * most_coordinates → SFits w64 (pos n)
count_fits n h = sfits_of (omega arith)

pub mended_fit : (ring out : List Float) (n : ℕ) → mend_call_answer ring out ≡ Ok n → SFits w64 (pos n)
mended_fit ring out n e = sfits_of (omega (arith, (mended_count ring out n e).1))

pub bytes_fit : (frame out : List ℕ) (n : ℕ) → frame_call_answer frame out ≡ Ok n → SFits w64 (pos n)
bytes_fit frame out n e = sfits_of (omega (arith, answered_few frame (length out) n e))
