-- A node is read back where it was stored, and nothing else is touched: each value is behind the ones stored before it.
-- Assumes nothing.
use Prim.Native.Nat.{ℕ, ◌+◌, ◌≤◌}
use mathlib.Core.Path.{◌≡◌, ◌∙◌}
use mathlib.Core.List.{List}
use native.Mathlib.Omega.{arith}
use lib.ListN.{length}
use Rattle.words.specs.Word.{word, put_word}
use Rattle.words.proofs.WordLaws.{word_same}
use Rattle.tactics.specs.Memory.{Same, Only}
use Rattle.tactics.specs.Numbers.{long, put_long}
use Rattle.tactics.proofs.MemoryLaws.{only_then, only_wider, only_word, same_word}
use Rattle.tactics.proofs.NumberLaws.{same_long, only_long, long_same}
use Rattle.search_machine.specs.declared.nodes.Node.{Node}
use Rattle.search_machine.specs.Layout.{node_size}
use Rattle.search_machine.specs.Nodes.{node_at, put_first, put_places, put_rest, put_node}

-- a node that lies in bytes that are the same
pub node_kept : (w v : List ℕ) (low top at : ℕ) → Same low top w v → low ≤ at → at + node_size ≤ top → node_at v at ≡ node_at w at
node_kept w v low top at h l r =
    let e0 : word v at ≡ word w at = same_word w v low top at h (omega arith) (omega arith) in
    let e1 : word v (at + 2) ≡ word w (at + 2) = same_word w v low top (at + 2) h (omega arith) (omega arith) in
    let e2 : word v (at + 4) ≡ word w (at + 4) = same_word w v low top (at + 4) h (omega arith) (omega arith) in
    let e3 : word v (at + 6) ≡ word w (at + 6) = same_word w v low top (at + 6) h (omega arith) (omega arith) in
    let e4 : long v (at + 8) ≡ long w (at + 8) = same_long w v low top (at + 8) h (omega arith) (omega arith) in
    let e5 : long v (at + 12) ≡ long w (at + 12) = same_long w v low top (at + 12) h (omega arith) (omega arith) in
    let e6 : word v (at + 16) ≡ word w (at + 16) = same_word w v low top (at + 16) h (omega arith) (omega arith) in
    let e7 : word v (at + 18) ≡ word w (at + 18) = same_word w v low top (at + 18) h (omega arith) (omega arith) in
    let e8 : word v (at + 20) ≡ word w (at + 20) = same_word w v low top (at + 20) h (omega arith) (omega arith) in
    let e9 : long v (at + 22) ≡ long w (at + 22) = same_long w v low top (at + 22) h (omega arith) (omega arith) in
    λ i. record { kind = e0 i; level = e1 i; at = e2 i; count = e3 i; link = e4 i; start = e5 i; left = e6 i; mark = e7 i; right = e8 i; other = e9 i }

module _ (w : List ℕ) (at : ℕ) (n : Node) (room : at + node_size ≤ length w) where
  abbrev w1 : List ℕ
  w1 = put_word w at n.kind

  abbrev w2 : List ℕ
  w2 = put_word w1 (at + 2) n.level

  abbrev w3 : List ℕ
  w3 = put_word w2 (at + 4) n.at

  abbrev w4 : List ℕ
  w4 = put_word w3 (at + 6) n.count

  abbrev w5 : List ℕ
  w5 = put_long w4 (at + 8) n.link

  abbrev w6 : List ℕ
  w6 = put_long w5 (at + 12) n.start

  abbrev w7 : List ℕ
  w7 = put_word w6 (at + 16) n.left

  abbrev w8 : List ℕ
  w8 = put_word w7 (at + 18) n.mark

  abbrev w9 : List ℕ
  w9 = put_word w8 (at + 20) n.right

  abbrev w10 : List ℕ
  w10 = put_long w9 (at + 22) n.other

  o1 : Only at (at + 2) w w1
  o1 = only_wider at (at + 2) at (at + 2) w w1 (only_word w at n.kind) (omega arith) (omega arith)

  o2 : Only (at + 2) (at + 4) w1 w2
  o2 = only_wider (at + 2) (at + 2 + 2) (at + 2) (at + 4) w1 w2 (only_word w1 (at + 2) n.level) (omega arith) (omega arith)

  o3 : Only (at + 4) (at + 6) w2 w3
  o3 = only_wider (at + 4) (at + 4 + 2) (at + 4) (at + 6) w2 w3 (only_word w2 (at + 4) n.at) (omega arith) (omega arith)

  o4 : Only (at + 6) (at + 8) w3 w4
  o4 = only_wider (at + 6) (at + 6 + 2) (at + 6) (at + 8) w3 w4 (only_word w3 (at + 6) n.count) (omega arith) (omega arith)

  o5 : Only (at + 8) (at + 12) w4 w5
  o5 = only_wider (at + 8) (at + 8 + 4) (at + 8) (at + 12) w4 w5 (only_long w4 (at + 8) n.link) (omega arith) (omega arith)

  o6 : Only (at + 12) (at + 16) w5 w6
  o6 = only_wider (at + 12) (at + 12 + 4) (at + 12) (at + 16) w5 w6 (only_long w5 (at + 12) n.start) (omega arith) (omega arith)

  o7 : Only (at + 16) (at + 18) w6 w7
  o7 = only_wider (at + 16) (at + 16 + 2) (at + 16) (at + 18) w6 w7 (only_word w6 (at + 16) n.left) (omega arith) (omega arith)

  o8 : Only (at + 18) (at + 20) w7 w8
  o8 = only_wider (at + 18) (at + 18 + 2) (at + 18) (at + 20) w7 w8 (only_word w7 (at + 18) n.mark) (omega arith) (omega arith)

  o9 : Only (at + 20) (at + 22) w8 w9
  o9 = only_wider (at + 20) (at + 20 + 2) (at + 20) (at + 22) w8 w9 (only_word w8 (at + 20) n.right) (omega arith) (omega arith)

  o10 : Only (at + 22) (at + 26) w9 w10
  o10 = only_wider (at + 22) (at + 22 + 4) (at + 22) (at + 26) w9 w10 (only_long w9 (at + 22) n.other) (omega arith) (omega arith)

  n1 : length w1 ≡ length w
  n1 = o1.same_length

  n2 : length w2 ≡ length w
  n2 = o2.same_length ∙ n1

  n3 : length w3 ≡ length w
  n3 = o3.same_length ∙ n2

  n4 : length w4 ≡ length w
  n4 = o4.same_length ∙ n3

  n5 : length w5 ≡ length w
  n5 = o5.same_length ∙ n4

  n6 : length w6 ≡ length w
  n6 = o6.same_length ∙ n5

  n7 : length w7 ≡ length w
  n7 = o7.same_length ∙ n6

  n8 : length w8 ≡ length w
  n8 = o8.same_length ∙ n7

  n9 : length w9 ≡ length w
  n9 = o9.same_length ∙ n8

  n10 : length w10 ≡ length w
  n10 = o10.same_length ∙ n9

  pub only_node : Only at (at + node_size) w (put_node w at n)
  unfolding put_node put_first put_places put_rest
  only_node =
      only_then at (at + node_size) w w1 _ (only_wider at (at + 2) at (at + node_size) w w1 o1 (omega arith) (omega arith))
      (only_then at (at + node_size) w1 w2 _ (only_wider (at + 2) (at + 4) at (at + node_size) w1 w2 o2 (omega arith) (omega arith))
      (only_then at (at + node_size) w2 w3 _ (only_wider (at + 4) (at + 6) at (at + node_size) w2 w3 o3 (omega arith) (omega arith))
      (only_then at (at + node_size) w3 w4 _ (only_wider (at + 6) (at + 8) at (at + node_size) w3 w4 o4 (omega arith) (omega arith))
      (only_then at (at + node_size) w4 w5 _ (only_wider (at + 8) (at + 12) at (at + node_size) w4 w5 o5 (omega arith) (omega arith))
      (only_then at (at + node_size) w5 w6 _ (only_wider (at + 12) (at + 16) at (at + node_size) w5 w6 o6 (omega arith) (omega arith))
      (only_then at (at + node_size) w6 w7 _ (only_wider (at + 16) (at + 18) at (at + node_size) w6 w7 o7 (omega arith) (omega arith))
      (only_then at (at + node_size) w7 w8 _ (only_wider (at + 18) (at + 20) at (at + node_size) w7 w8 o8 (omega arith) (omega arith))
      (only_then at (at + node_size) w8 w9 _ (only_wider (at + 20) (at + 22) at (at + node_size) w8 w9 o9 (omega arith) (omega arith))
      (only_wider (at + 22) (at + 26) at (at + node_size) w9 w10 o10 (omega arith) (omega arith))))))))))

  late9 : Same 0 (at + 22) w9 w10
  late9 = λ i l h. o10.kept.below i h

  late8 : Same 0 (at + 20) w8 w10
  late8 = λ i l h. late9 i l (omega arith) ∙ o9.kept.below i h

  late7 : Same 0 (at + 18) w7 w10
  late7 = λ i l h. late8 i l (omega arith) ∙ o8.kept.below i h

  late6 : Same 0 (at + 16) w6 w10
  late6 = λ i l h. late7 i l (omega arith) ∙ o7.kept.below i h

  late5 : Same 0 (at + 12) w5 w10
  late5 = λ i l h. late6 i l (omega arith) ∙ o6.kept.below i h

  late4 : Same 0 (at + 8) w4 w10
  late4 = λ i l h. late5 i l (omega arith) ∙ o5.kept.below i h

  late3 : Same 0 (at + 6) w3 w10
  late3 = λ i l h. late4 i l (omega arith) ∙ o4.kept.below i h

  late2 : Same 0 (at + 4) w2 w10
  late2 = λ i l h. late3 i l (omega arith) ∙ o3.kept.below i h

  late1 : Same 0 (at + 2) w1 w10
  late1 = λ i l h. late2 i l (omega arith) ∙ o2.kept.below i h

  -- a node is read back where it was stored
  pub node_same : node_at (put_node w at n) at ≡ n
  unfolding put_node put_first put_places put_rest
  node_same =
      let e0 : word w10 at ≡ n.kind = same_word w1 w10 0 (at + 2) at late1 (omega arith) (omega arith) ∙ word_same w at n.kind (omega arith) in
      let e1 : word w10 (at + 2) ≡ n.level = same_word w2 w10 0 (at + 4) (at + 2) late2 (omega arith) (omega arith) ∙ word_same w1 (at + 2) n.level (omega (arith, n1)) in
      let e2 : word w10 (at + 4) ≡ n.at = same_word w3 w10 0 (at + 6) (at + 4) late3 (omega arith) (omega arith) ∙ word_same w2 (at + 4) n.at (omega (arith, n2)) in
      let e3 : word w10 (at + 6) ≡ n.count = same_word w4 w10 0 (at + 8) (at + 6) late4 (omega arith) (omega arith) ∙ word_same w3 (at + 6) n.count (omega (arith, n3)) in
      let e4 : long w10 (at + 8) ≡ n.link = same_long w5 w10 0 (at + 12) (at + 8) late5 (omega arith) (omega arith) ∙ long_same w4 (at + 8) n.link (omega (arith, n4)) in
      let e5 : long w10 (at + 12) ≡ n.start = same_long w6 w10 0 (at + 16) (at + 12) late6 (omega arith) (omega arith) ∙ long_same w5 (at + 12) n.start (omega (arith, n5)) in
      let e6 : word w10 (at + 16) ≡ n.left = same_word w7 w10 0 (at + 18) (at + 16) late7 (omega arith) (omega arith) ∙ word_same w6 (at + 16) n.left (omega (arith, n6)) in
      let e7 : word w10 (at + 18) ≡ n.mark = same_word w8 w10 0 (at + 20) (at + 18) late8 (omega arith) (omega arith) ∙ word_same w7 (at + 18) n.mark (omega (arith, n7)) in
      let e8 : word w10 (at + 20) ≡ n.right = same_word w9 w10 0 (at + 22) (at + 20) late9 (omega arith) (omega arith) ∙ word_same w8 (at + 20) n.right (omega (arith, n8)) in
      let e9 : long w10 (at + 22) ≡ n.other = long_same w9 (at + 22) n.other (omega (arith, n9)) in
      λ i. record { kind = e0 i; level = e1 i; at = e2 i; count = e3 i; link = e4 i; start = e5 i; left = e6 i; mark = e7 i; right = e8 i; other = e9 i }
