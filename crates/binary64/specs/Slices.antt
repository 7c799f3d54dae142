-- What a call leaves in a lent slice (document 01, "Frames": "fills scratch and order with zeros"; document 02, Point 4: "the output past
-- the answer, up to what 22 asks, then holds zeros"; Point 12: the u16 output "past the answer follows the output's rule"). Definitions
-- only.
use Rattle.std.specs.Prelude.{false, List, ◌++◌, ℕ, ◌-◌, Float, pos, length, drop, replicate}
use Rattle.std.specs.Float.{fin}

-- +0.0
abbrev pub plus_zero : Float
plus_zero = fin false 0 (pos 0)

abbrev pub zeros : ℕ → List Float
zeros n = replicate n plus_zero

-- a list written from the front over another, which is long enough: 22 sees to it, and in the line step `slices_fit`
abbrev pub over : {A : Type 0} → List A → List A → List A
over new old = new ++ drop (length new) old

-- `new` from the front, zeros behind it up to `room`, and past `room` what `old` held. 22 sees to it that `old` is as long as `room`; that
-- `new` is no longer than `room` is a fact about B, without which no slice could keep its length.
abbrev pub padded : {A : Type 0} → A → List A → ℕ → List A → List A
padded zero new room old = new ++ (replicate (room - length new) zero ++ drop room old)
