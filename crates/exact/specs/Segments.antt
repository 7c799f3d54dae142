-- Whether two closed segments between points of whole numbers share a point, exactly (document 02, Point 5). Definitions only.
use Rattle.std.specs.Prelude.{◌≡◌, ℕ, ◌+◌, ◌*◌, ◌<◌, min, max, Bool, true, not, ◌&&◌, ◌||◌, nat_lt}

-- a point of whole numbers; those of the code, `segments::Point`, are at most as large as the numbers of the grid
pub record Point : Type 0 where
  pub x : ℕ
  pub y : ℕ

-- ---- what is meant

-- "the two closed segments share a point": (r·a + s·b) / (r + s) is (u·c + t·d) / (u + t). Whole numbers for weights are enough: of two
-- segments between points of whole numbers that share any point, one has an end on the other, or they cross at a point that divides each in
-- a ratio of whole numbers
pub record SharedPoint (a b c d : Point) : Type 0 where
  pub r : ℕ
  pub s : ℕ
  pub u : ℕ
  pub t : ℕ
  pub some : 0 < r + s
  pub same_weight : r + s ≡ u + t
  pub same_x : r * a.x + s * b.x ≡ u * c.x + t * d.x
  pub same_y : r * a.y + s * b.y ≡ u * c.y + t * d.y

-- an answer is true exactly where a fact holds
abbrev pub Decides : Bool → Type 0 → Type 0
Decides r P = (r ≡ true → P) × (P → r ≡ true)

-- ---- the test by sides, which is proved to say the same: `shares_decided` in proofs/SegmentLaws.antt

-- `shoelace a b c` less `shoelace b a c` is twice the area of the triangle, counted as positive where c lies left of the line from a to b
abbrev pub shoelace : Point → Point → Point → ℕ
shoelace a b c = a.x * b.y + b.x * c.y + c.x * a.y

-- c lies strictly left of the line from a to b; strictly right of it is strictly left of the line from b to a
unfoldable pub is_left : Point → Point → Point → Bool
is_left a b c = nat_lt (shoelace b a c) (shoelace a b c)

unfoldable pub both_left : Point → Point → Point → Point → Bool
both_left a b c d = is_left a b c && is_left a b d

-- both c and d lie strictly on one side of the line through a and b; where these are one point there is no line, and it is false
unfoldable pub one_side : Point → Point → Point → Point → Bool
one_side a b c d = both_left a b c d || both_left b a c d

-- all numbers from a to b are below all from c to d, or the other way round
unfoldable pub ranges_apart : ℕ → ℕ → ℕ → ℕ → Bool
ranges_apart a b c d = nat_lt (max a b) (min c d) || nat_lt (max c d) (min a b)

-- the boxes of the two segments are apart
unfoldable pub boxes_apart : Point → Point → Point → Point → Bool
boxes_apart a b c d = ranges_apart a.x b.x c.x d.x || ranges_apart a.y b.y c.y d.y

unfoldable pub shares_point : Point → Point → Point → Point → Bool
shares_point a b c d = not (boxes_apart a b c d) && not (one_side a b c d || one_side c d a b)
