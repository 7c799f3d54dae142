-- Laws of products in places. Assumes nothing.
use Rattle.std.proofs.Common.{◌≡◌, ℕ, ◌+◌, ◌*◌, ◌/◌, ◌%◌, ◌^◌, ◌≤◌, ◌∙◌, ap₂, le_trans, mul-le-mul_right, mul-le-mul_left, div-add-mod', arith}

pub bounded : (a b m n : ℕ) → a ≤ m → b ≤ n → a * b ≤ m * n
bounded a b m n p q = le_trans (mul-le-mul_right b p) (mul-le-mul_left m q)

split : (K a1 a0 b1 b0 : ℕ) → a1 * b1 * (K * K) + (a1 * b0 + a0 * b1) * K + a0 * b0 ≡ (a1 * K + a0) * (b1 * K + b0)
split K a1 a0 b1 b0 = omega arith

pub halves : (a b : ℕ)
    → a / 2 ^ 30 * (b / 2 ^ 30) * 2 ^ 60 + (a / 2 ^ 30 * (b % 2 ^ 30) + a % 2 ^ 30 * (b / 2 ^ 30)) * 2 ^ 30 + a % 2 ^ 30 * (b % 2 ^ 30)
    ≡ a * b
halves a b = split (2 ^ 30) (a / 2 ^ 30) (a % 2 ^ 30) (b / 2 ^ 30) (b % 2 ^ 30)
    ∙ ap₂ (λ (x y : ℕ). x * y) (div-add-mod' a (2 ^ 30)) (div-add-mod' b (2 ^ 30))
