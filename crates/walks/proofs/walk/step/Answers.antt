-- `walk::step` meets its contract: a label on another count is refused, and the term inside the labels begins by its tag.
-- Assumes nothing.
use mathlib.Core.Path.{refl, sym, ◌∙◌}
use Prim.Native.Nat.{◌+◌}
use native.Mathlib.Omega.{arith}
use Rattle.format.proofs.StandsLaws.{known}
use Rattle.walks.proofs.LabelLaws.{bare-behind}
use Rattle.walks.proofs.LeafLaws.{label_stops, bare-begins, bare_no_label}
use Rattle.walks.proofs.WalkLaws.{goes_later, steps_go}
use Rattle.walks.proofs.walk.step.Goals as goal

pub returns-then-label_count_wrong : goal.returns-then-label_count_wrong
returns-then-label_count_wrong g c = λ T x A y b.
    rw c.new.ensures (steps_go (λ B s w. g.L.Leaves.ready c.args.leaves.now T x B s w) (g.L.Leaves.acts T) x A _ _ _ refl y _ _ _ (omega arith)
    (label_stops (g.L.Leaves.acts T) x A _ _ _ b (sym (c.label_count_wrong.ensures b.0 b.2.stands) ∙ c.if-label_count_wrong.true) (c.args.n.at + 1)))

pub bounds-proof-at : goal.bounds-proof-at
bounds-proof-at g c =
    let (T, x, A, y, b) = c.requires.0 in
    let d = bare-begins (g.L.Leaves.acts T) x A _ _ _ b _ (c.unlabelled-at.ensures b.0 b.2.stands) (sym (c.label_count_wrong.ensures b.0 b.2.stands) ∙ c.if-label_count_wrong.false) in
    omega (arith, known _ _ _ d.2.stands)

pub begin_sequence-requires : goal.begin_sequence-requires
begin_sequence-requires g c =
    let (T, x, A, y, b) = c.requires.0 in
    let d = bare-begins (g.L.Leaves.acts T) x A _ _ _ b _ (c.unlabelled-at.ensures b.0 b.2.stands) (sym (c.label_count_wrong.ensures b.0 b.2.stands) ∙ c.if-label_count_wrong.false) in
    (g.L.Leaves.code, g.L.Leaves.acts T, x, A, _, d, c.requires.1, c.in-19.is)

pub begin_tensor-requires : goal.begin_tensor-requires
begin_tensor-requires g c =
    let (T, x, A, y, b) = c.requires.0 in
    let d = bare-begins (g.L.Leaves.acts T) x A _ _ _ b _ (c.unlabelled-at.ensures b.0 b.2.stands) (sym (c.label_count_wrong.ensures b.0 b.2.stands) ∙ c.if-label_count_wrong.false) in
    (g.L.Leaves.code, g.L.Leaves.acts T, x, A, _, d, c.requires.1, c.in-20.is)

pub begin_leaf-requires : goal.begin_leaf-requires
begin_leaf-requires g c =
    let (T, x, A, y, b) = c.requires.0 in
    let d = bare-begins (g.L.Leaves.acts T) x A _ _ _ b _ (c.unlabelled-at.ensures b.0 b.2.stands) (sym (c.label_count_wrong.ensures b.0 b.2.stands) ∙ c.if-label_count_wrong.false) in
    ((T, x, A, y, d), c.requires.1, (bare_no_label (g.L.Leaves.acts T) x A _ _ _ b _ (c.unlabelled-at.ensures b.0 b.2.stands), (λ e. omega arith), (λ e. omega arith)))

pub returns-in-19 : goal.returns-in-19
returns-in-19 g c = λ T x A y b.
    let d = bare-begins (g.L.Leaves.acts T) x A _ _ _ b _ (c.unlabelled-at.ensures b.0 b.2.stands) (sym (c.label_count_wrong.ensures b.0 b.2.stands) ∙ c.if-label_count_wrong.false) in
    steps_go (λ B s w. g.L.Leaves.ready c.args.leaves.now T x B s w) (g.L.Leaves.acts T) x A _ _ _ c.begin_sequence.auto.work y _ _ _ (omega (arith, c.unlabelled-at.ensures b.0 b.2.stands, bare-behind b.0 c.args.n.at))
    (c.begin_sequence.ensures g.L.Leaves.code (g.L.Leaves.acts T) x A _ d (c.requires.1) c.in-19.is)

pub returns-in-20 : goal.returns-in-20
returns-in-20 g c = λ T x A y b.
    let d = bare-begins (g.L.Leaves.acts T) x A _ _ _ b _ (c.unlabelled-at.ensures b.0 b.2.stands) (sym (c.label_count_wrong.ensures b.0 b.2.stands) ∙ c.if-label_count_wrong.false) in
    steps_go (λ B s w. g.L.Leaves.ready c.args.leaves.now T x B s w) (g.L.Leaves.acts T) x A _ _ _ c.begin_tensor.auto.work y _ _ _ (omega (arith, c.unlabelled-at.ensures b.0 b.2.stands, bare-behind b.0 c.args.n.at))
    (c.begin_tensor.ensures g.L.Leaves.code (g.L.Leaves.acts T) x A _ d (c.requires.1) c.in-20.is)

pub returns-in_default : goal.returns-in_default
returns-in_default g c = λ T x A y b.
    let d = bare-begins (g.L.Leaves.acts T) x A _ _ _ b _ (c.unlabelled-at.ensures b.0 b.2.stands) (sym (c.label_count_wrong.ensures b.0 b.2.stands) ∙ c.if-label_count_wrong.false) in
    goes_later (λ B s w. g.L.Leaves.ready _ T x B s w) (g.L.Leaves.acts T) x _ _ _ _ _ (omega (arith, c.unlabelled-at.ensures b.0 b.2.stands, bare-behind b.0 c.args.n.at)) (c.begin_leaf.ensures T x A y d)
