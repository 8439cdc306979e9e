-- Lists of goals in work space.
use Rattle.std.specs.Prelude.{ℕ, ◌+◌, ◌*◌, ◌≡◌, List, ◌++◌}
use Rattle.format.specs.Goals.{goals_at}
use Rattle.tactics.specs.Memory.{Only}

-- the goals of two lists lie behind one another, and nothing else was written
pub record Gathered (w v : List ℕ) (to from₁ n₁ from₂ n₂ : ℕ) : Type 0 where
  pub only : Only to (to + (n₁ + n₂) * 2) w v
  pub goals : goals_at v to (n₁ + n₂) ≡ goals_at w from₁ n₁ ++ goals_at w from₂ n₂

-- the goals of two lists lie behind one another from `to` on, and nothing was written before them or behind the bytes that they went through
pub record Joined (w v : List ℕ) (to end from₁ n₁ from₂ n₂ : ℕ) : Type 0 where
  pub only : Only to (end + (n₁ + n₂) * 2) w v
  pub goals : goals_at v to (n₁ + n₂) ≡ goals_at w from₁ n₁ ++ goals_at w from₂ n₂
