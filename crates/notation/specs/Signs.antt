-- The signs by the tags of their terms, for the code of reader and writer.
use Rattle.std.specs.Prelude.{ℕ, Bool, true, cond, eqb}

-- the tag of a sequence, a tensor or an alternation
unfoldable pub is_pair : ℕ → Bool
is_pair k = cond (eqb k 19) true (cond (eqb k 20) true (eqb k 22))

-- how tight its sign binds
unfoldable pub rank_tag : ℕ → ℕ
rank_tag k = cond (eqb k 20) 2 (cond (eqb k 22) 1 0)
