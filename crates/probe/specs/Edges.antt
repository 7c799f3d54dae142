-- What the calls on edges answer: the definitions of `box_pairs`, as codes, where there is room.
use Rattle.std.specs.Prelude.{Bool, not, cond, ◌&&◌, ◌||◌, List, ℕ, ◌+◌, ◌-◌, ◌*◌, ◌/◌, ◌^◌, eqb, leb, ltb}
use Rattle.std.specs.Prelude.{Float, length, Option, None, Some}
use Rattle.box_pairs.specs.declared.Issue.{Issue}
use Rattle.box_pairs.specs.declared.Issue.TheVariants.{Sound, Short, Repeated, Crossing}
use Rattle.box_pairs.specs.declared.pairs.Pair.{Pair}
use Rattle.box_pairs.specs.Internal.{front}
use Rattle.box_pairs.specs.Pairs.{first_pair}
use Rattle.box_pairs.specs.Issue.{issue_of}

-- what was found, 2^8 times the first position and 2^32 times the second
unfoldable pub located : ℕ → ℕ → ℕ → ℕ
located found first second = found + 2 ^ 8 * first + 2 ^ 32 * second

abbrev pub issue_code : Issue → ℕ
issue_code Sound = 0
issue_code Short = 1
issue_code (Repeated position) = located 2 position 0
issue_code (Crossing lower higher) = located 3 lower higher

abbrev pub pair_code : Option Pair → ℕ
pair_code None = 0
pair_code (Some pair) = located 1 pair.lower pair.higher

-- the answer where nothing is looked for
abbrev pub no_answer : ℕ
no_answer = 2 ^ 64 - 1

-- a ring has fewer coordinates than this
abbrev pub most : ℕ
most = 2 ^ 24

unfoldable pub has_room : ℕ → List Float → List ℕ → Bool
has_room n work order = leb n (length work / 2) && (leb n (length order) && ltb n most)

unfoldable pub found_issue : List Float → ℕ → List Float → List ℕ → ℕ
found_issue ring simple work order =
    cond (has_room (length ring / 2) work order) (issue_code (issue_of (not (eqb simple 0)) (front ring (length ring / 2)))) no_answer

unfoldable pub scan_answer : List Float → ℕ
scan_answer ring =
    let n = length ring / 2 in
    cond (eqb n 0 || leb most n) no_answer (pair_code (first_pair (front ring n)))

unfoldable pub sweep_answer : List Float → List Float → List ℕ → ℕ
sweep_answer ring work order =
    let n = length ring / 2 in
    cond (eqb n 0 || not (has_room n work order)) no_answer (pair_code (first_pair (front ring n)))
