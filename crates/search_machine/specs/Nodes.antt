-- Nodes in the arena.
use Rattle.std.specs.Prelude.{ℕ, ◌+◌, ◌<◌, List}
use Rattle.words.specs.Word.{word, put_word}
use Rattle.tactics.specs.Numbers.{long, put_long}
use Rattle.search_machine.specs.declared.nodes.Node.{Node}

-- the node at a place
abbrev pub node_at : List ℕ → (at : ℕ) → Node
node_at w at = record {
  kind = word w at;
  level = word w (at + 2);
  at = word w (at + 4);
  count = word w (at + 6);
  link = long w (at + 8);
  start = long w (at + 12);
  left = word w (at + 16);
  mark = word w (at + 18);
  right = word w (at + 20);
  other = long w (at + 22);
}

-- a node written: the values that every term that waits has, the two places in the arena, then the values of a choice
unfoldable pub put_first : List ℕ → (at : ℕ) → Node → List ℕ
put_first w at n = put_word (put_word (put_word (put_word w at n.kind) (at + 2) n.level) (at + 4) n.at) (at + 6) n.count

unfoldable pub put_places : List ℕ → (at : ℕ) → Node → List ℕ
put_places w at n = put_long (put_long w (at + 8) n.link) (at + 12) n.start

unfoldable pub put_rest : List ℕ → (at : ℕ) → Node → List ℕ
put_rest w at n = put_long (put_word (put_word (put_word w (at + 16) n.left) (at + 18) n.mark) (at + 20) n.right) (at + 22) n.other

unfoldable pub put_node : List ℕ → (at : ℕ) → Node → List ℕ
put_node w at n = put_rest (put_places (put_first w at n) at n) at n

-- every value has its bits
pub record Small (n : Node) : Type 0 where
  pub at_small : n.at < 65536
  pub link_small : n.link < 4294967296
  pub start_small : n.start < 4294967296
  pub count_small : n.count < 65536
  pub left_small : n.left < 65536
  pub mark_small : n.mark < 65536
  pub right_small : n.right < 65536
  pub other_small : n.other < 4294967296
