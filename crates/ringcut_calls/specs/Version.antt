-- The version that a build says it is of: CHANGELOG.md lists them. Definitions only.
use Rattle.std.specs.Prelude.{ℕ, ◌+◌, ◌*◌}

abbrev pub major : ℕ
major = 1

abbrev pub minor : ℕ
minor = 0

abbrev pub patch : ℕ
patch = 0

-- the number that stands for all three, the minor version and the patch being under 1000
abbrev pub version : ℕ
version = 1000000 * major + 1000 * minor + patch
