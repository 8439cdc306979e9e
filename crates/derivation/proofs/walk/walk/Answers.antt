-- `walk::walk` meets its contract: at each place of the code the lemmas of WalkLaws and RuleLaws say what holds there.
-- Assumes nothing.
use Rattle.std.proofs.Common.{ℕ, ◌+◌, ◌≤◌, ◌<◌, ◌≡◌, ◌∙◌, sym, subst, true, false, List, length, get_or, arith}
use Rattle.words.specs.Word.{word}
use Rattle.words.specs.Kept.{Kept}
use Rattle.format.specs.declared.values.Goal.{Goal}
use Rattle.format.specs.Limits.{most_uses}
use Rattle.format.specs.Goals.{goals_at}
use Rattle.rule_set.proofs.SetKept.{set_before}
use Rattle.tables.specs.declared.repeats.Repeat.TheVariants as K
use Rattle.tables.specs.Tables.{Table}
use Rattle.index.specs.Keys.{is_key}
use Rattle.index.specs.Build.{RulesIndexed}
use Rattle.files.specs.Derivations.{Entry}
use Rattle.files.proofs.EntryBytes.{entries_end}
use Rattle.hitac.specs.FlatWalk.{flat_walk}
use Rattle.derivation.specs.Layout.{index_place, set_place, set_end}
use Rattle.derivation.specs.Pending.{first_entry, pending_in, carries_first, Passes, Takes}
use Rattle.derivation.specs.Walks.{EntryInside, carried_goal, Given}
use Rattle.derivation.proofs.PendingLaws.{pending-kept}
use Rattle.derivation.proofs.RuleLaws.{indexed_still, none_headed, AtNode, node_few, node_inside, rule_here, rule_inside, rule_found_lem, none_found, goes_down, higher}
use Rattle.derivation.proofs.UsedLaws.{Used, used-kept}
use Rattle.derivation.proofs.WalkLaws.{other_told, left_told, Keeps, keeps_first, keeps_passed, keeps_pushed, keeps_put, Reached, reached_first, here_inside, lists_few, at_end, all_used, entry_inside, not_first, goes_open, no_rule, room_for, goes_use}
use Rattle.derivation.proofs.walk.walk.Goals.{At-walk, Else-flat-at, In-Some, At-loop-place, Else-is_rule_of, Then-is_rule_of}
use Rattle.derivation.proofs.walk.walk.Goals as goal

pub overflow_mul-at : goal.overflow_mul-at
overflow_mul-at c = omega (arith, entries_end _ _ _ _ c.requires.given.entries_stand, c.well_formed)

pub overflow_add-at : goal.overflow_add-at
overflow_add-at c = omega (arith, entries_end _ _ _ _ c.requires.given.entries_stand, c.well_formed)

pub walk-init : goal.walk-init
walk-init c =
    let roots_inside : first_entry c.args.roots ≤ length c.args.flat.now = omega (arith, entries_end _ _ _ _ c.requires.given.entries_stand) in
    (keeps_first _ _ _ _ roots_inside, λ T es g. reached_first _ _ _ _ _ T es g c.requires.none_used)

-- the walk, at the head of its loop, over the entries that stand there
reached : (c : At-walk) → Reached c.requires.the_table c.args.flat.now c.walk.work c.requires.the_entries (flat_walk c.requires.the_table (first_entry c.args.roots) (goals_at c.args.flat.now 3 c.args.roots) c.requires.the_entries) c.walk.at c.walk.pending.lists (pending_in c.args.table.now c.args.flat.now c.args.roots c.walk.work c.walk.pending)
reached c = c.walk.invariant.1 c.requires.the_table c.requires.the_entries c.requires.given

within : (c : At-walk) → c.walk.at ≤ length c.args.flat.now
within c = here_inside _ _ _ _ _ _ _ _ (reached c)

-- an entry
inside : (c : At-walk) → c.walk.at < length c.args.flat.now → EntryInside c.args.flat.now c.walk.at
inside c more = entry_inside _ _ _ _ _ _ _ _ (reached c) more

pub carried_goal-goal-requires : goal.carried_goal-goal-requires
carried_goal-goal-requires c = inside (goal.at.carried_goal-goal-requires c).At-walk c.if-flat-at.false

-- the entry carries the first pending goal, which was taken off
told : (c : In-Some) → (carries_first (carried_goal c.args.flat.now c.walk.at) (pending_in c.args.table.now c.args.flat.now c.args.roots c.walk.work c.walk.pending) ≡ true)
    × Passes c.args.table.now c.args.flat.now c.args.roots c.walk.work c.take.new.work c.walk.pending c.in-Some.others
told c =
    left_told _ _ _ _ _ _ _ _
    (subst (λ (γ : Goal). Takes c.args.table.now c.args.flat.now c.args.roots c.walk.work c.take.new.work c.walk.pending γ c.take.result) c.carried_goal-goal.ensures c.take.ensures)
    _ c.in-Some.is

few_lists : (c : In-Some) → c.walk.pending.lists ≤ most_uses
few_lists c = lists_few _ _ _ _ _ _ _ _ (c.walk.invariant.1 c.requires.the_table c.requires.the_entries c.requires.given)

keeps : (c : In-Some) → Keeps c.args.table.now c.args.flat.now c.args.roots c.args.work.now c.take.new.work c.in-Some.others
keeps c = let t = told c in keeps_passed _ _ _ _ _ _ _ c.walk.invariant.0 c.take.auto.work _ (few_lists c) t.1

indexed : (c : In-Some) → RulesIndexed c.args.table.now c.args.rules c.take.new.work index_place
indexed c = let k = keeps c in indexed_still _ _ _ _ k.size k.kept c.requires.indexed

used : (c : In-Some) → (T : Table) (es : List Entry) (g : Given c.args.table.now c.args.rules c.args.flat.now c.args.roots T es) → Used T c.take.new.work es (c.walk.invariant.1 T es g).rest
used c T es g = let t = told c in used-kept _ _ _ _ _ _ _ c.take.auto.work t.1.kept (omega (arith, few_lists c)) (c.walk.invariant.1 T es g).so_far

pub walk-preserved-then-flat-at-ne-USE_TAG : goal.walk-preserved-then-flat-at-ne-USE_TAG
walk-preserved-then-flat-at-ne-USE_TAG c =
    let p : In-Some = (goal.at.walk-preserved-then-flat-at-ne-USE_TAG c).In-Some in
    let t = told p in
    (keeps p, λ T es g. goes_open _ _ _ _ _ _ _ _ (c.walk.invariant.1 T es g) c.if-flat-at.false t.0 c.if-flat-at-ne-USE_TAG.true _ _ _ t.1.few t.1.others (used p T es g))

pub digits_at-digits-requires : goal.digits_at-digits-requires
digits_at-digits-requires c = (inside (goal.at.digits_at-digits-requires c).At-walk c.if-flat-at.false).some_use c.if-flat-at-ne-USE_TAG.false

-- a node on the way down to the rule of the use
at_node : (c : At-loop-place) → AtNode c.args.table.now c.args.rules c.take.new.work (word c.args.flat.now (c.walk.at + 3)) (word c.args.flat.now (c.walk.at + 5)) c.loop-place.rest c.loop-place.node
at_node c = record {
  indexed = indexed (goal.at.overflow_mul-node c).In-Some;
  the_table = c.requires.the_table;
  stands = c.requires.given.rules_stand;
  way = c.loop-place.invariant;
}

pub overflow_mul-node : goal.overflow_mul-node
overflow_mul-node c = omega (arith, node_few (at_node c))

pub overflow_add-node : goal.overflow_add-node
overflow_add-node c = omega (arith, node_few (at_node c))

pub load16-place-requires : goal.load16-place-requires
load16-place-requires c = omega (arith, node_inside (at_node c))

pub is_rule_of-requires : goal.is_rule_of-requires
is_rule_of-requires c = (
  rule_here (at_node (goal.at.is_rule_of-requires c).At-loop-place) _ c.load16-place.ensures,
  (inside (goal.at.is_rule_of-requires c).At-walk c.if-flat-at.false).some_use c.if-flat-at-ne-USE_TAG.false,
)

pub overflow_mul-node-in-loop-place : goal.overflow_mul-node-in-loop-place
overflow_mul-node-in-loop-place c = omega (arith, node_few (at_node (goal.at.overflow_mul-node-in-loop-place c).At-loop-place))

pub overflow_add-node-in-loop-place : goal.overflow_add-node-in-loop-place
overflow_add-node-in-loop-place c = omega (arith, node_few (at_node (goal.at.overflow_add-node-in-loop-place c).At-loop-place))

pub link-node-requires : goal.link-node-requires
link-node-requires c = omega (arith, node_inside (at_node (goal.at.link-node-requires c).At-loop-place))

-- the rule there has another name or goal
other_key : (c : Else-is_rule_of) → is_key K.Rule c.args.table.now (word c.args.flat.now (c.walk.at + 3)) (word c.args.flat.now (c.walk.at + 5)) c.load16-place.result ≡ false
other_key c = sym c.is_rule_of.ensures ∙ c.if-is_rule_of.false

pub loop-place-smaller : goal.loop-place-smaller
loop-place-smaller c =
    let m = goal.at.loop-place-smaller c in
    omega (arith, higher (at_node m.At-loop-place) c.load16-place.result c.load16-place.ensures (other_key m.Else-is_rule_of) _ c.link-node.ensures c.if-node-eq0.false)

pub loop-place-preserved : goal.loop-place-preserved
loop-place-preserved c =
    let m = goal.at.loop-place-preserved c in
    goes_down (at_node m.At-loop-place) c.load16-place.result c.load16-place.ensures (other_key m.Else-is_rule_of) _ c.link-node.ensures c.if-node-eq0.false

-- it is the rule of the use
is-key : (c : Then-is_rule_of) → is_key K.Rule c.args.table.now (word c.args.flat.now (c.walk.at + 3)) (word c.args.flat.now (c.walk.at + 5)) c.load16-place.result ≡ true
is-key c = sym c.is_rule_of.ensures ∙ c.if-is_rule_of.true

-- before a use there is room for one list more
one_more : (p : In-Some) → get_or p.args.flat.now p.walk.at 0 ≡ 32 → p.in-Some.others.lists < most_uses
one_more p t =
    let s = told p in
    omega (arith, s.1.few, room_for _ _ _ _ _ _ _ _ (p.walk.invariant.1 p.requires.the_table p.requires.the_entries p.requires.given) p.if-flat-at.false s.0 t)

pub put-requires : goal.put-requires
put-requires c =
    let m = goal.at.put-requires c in
    let u = used m.In-Some c.requires.the_table c.requires.the_entries c.requires.given in
    ((u.numbers, u.in_set), omega (arith, node_few (at_node m.At-loop-place)))

-- its number was put into the set
still : (p : In-Some) → get_or p.args.flat.now p.walk.at 0 ≡ 32 → (w : List ℕ) → length w ≡ length p.take.new.work → Kept p.take.new.work w set_place set_end
    → Keeps p.args.table.now p.args.flat.now p.args.roots p.args.work.now w p.in-Some.others
still p t w size k = keeps_put _ _ _ _ _ _ _ (keeps p) size (omega (arith, one_more p t)) k

pub push-pending-requires : goal.push-pending-requires
push-pending-requires c =
    let m = goal.at.push-pending-requires c in
    let t = c.if-flat-at-ne-USE_TAG.false in
    let s = still m.In-Some t _ c.put.auto.w c.put.ensures.kept in (
      rule_inside (at_node m.At-loop-place) c.load16-place.result c.load16-place.ensures (is-key m.Then-is_rule_of),
      c.requires.short,
      omega (arith, one_more m.In-Some t, c.requires.none_used.room, s.size),
    )

pub walk-preserved : goal.walk-preserved
walk-preserved c =
    let m = goal.at.walk-preserved c in
    let p : In-Some = m.In-Some in
    let n : At-loop-place = m.At-loop-place in
    let t = told p in
    let is_use = c.if-flat-at-ne-USE_TAG.false in
    let s = still p is_use _ c.put.auto.w c.put.ensures.kept in
    let pushes = c.push-pending.ensures _ _ s.pends in
    let key = is-key m.Then-is_rule_of in (
      keeps_pushed _ _ _ _ _ _ _ s c.push-pending.auto.work _ _ (one_more p is_use) pushes,
      λ T es g. goes_use _ _ _ _ _ _ _ _ (c.walk.invariant.1 T es g) c.if-flat-at.false t.0 is_use _ _ _ _ _ _ _
          (rule_found_lem (at_node n) c.load16-place.result c.load16-place.ensures key T g.rules_stand)
          (pending-kept _ _ _ _ _ _ _ _ c.put.ensures.kept (omega (arith, one_more p is_use)) ∙ t.1.others)
          pushes.in_front (omega (arith, pushes.few, t.1.few))
          (used p T es g) (λ ns x. set_before _ _ _ _ _ _ c.push-pending.auto.work pushes.kept (omega (arith, one_more p is_use)) (c.put.ensures.more ns x)),
    )

pub returns-then-flat-at : goal.returns-then-flat-at
returns-then-flat-at c = record {
  result = λ T es g. at_end _ _ _ _ _ _ _ _ (c.walk.invariant.1 T es g) c.if-flat-at.true;
  inside = within (goal.at.returns-then-flat-at c).At-walk;
  pends = c.walk.invariant.0.pends;
  rules_used = λ T es g. all_used _ _ _ _ _ _ _ _ (c.walk.invariant.1 T es g);
  kept = c.walk.invariant.0.kept;
}

-- another goal is the first, or none is pending: the work space is as it was
pub returns-in_default : goal.returns-in_default
returns-in_default c =
    let takes : Takes c.args.table.now c.args.flat.now c.args.roots c.walk.work c.take.new.work c.walk.pending (carried_goal c.args.flat.now c.walk.at) c.take.result =
    subst (λ (γ : Goal). Takes c.args.table.now c.args.flat.now c.args.roots c.walk.work c.take.new.work c.walk.pending γ c.take.result) c.carried_goal-goal.ensures c.take.ensures in
    let other = other_told _ _ _ _ _ _ _ _ takes c.in_default.is in
    let kept_all : Keeps c.args.table.now c.args.flat.now c.args.roots c.args.work.now c.take.new.work c.walk.pending =
    subst (λ (v : List ℕ). Keeps c.args.table.now c.args.flat.now c.args.roots c.args.work.now v c.walk.pending) (sym other.1) c.walk.invariant.0 in
    record {
      result = λ T es g. not_first _ _ _ _ _ _ _ _ (c.walk.invariant.1 T es g) c.if-flat-at.false other.0 _;
      inside = within (goal.at.returns-in_default c).At-walk;
      pends = kept_all.pends;
      rules_used = λ T es g l. absurd (omega arith);
      kept = kept_all.kept;
    }

pub returns-then-head-eq0 : goal.returns-then-head-eq0
returns-then-head-eq0 c =
    let m = goal.at.returns-then-head-eq0 c in
    let p : In-Some = m.In-Some in
    let k = keeps p in
    let t = told p in
    record {
      result = λ T es g. no_rule _ _ _ _ _ _ _ _ (c.walk.invariant.1 T es g) c.if-flat-at.false t.0 c.if-flat-at-ne-USE_TAG.false
          (none_headed _ _ _ _ _ _ c.digits_at-digits.ensures c.head_of-head.ensures _ (indexed p) c.if-head-eq0.true T g.rules_stand) _;
      inside = within m.At-walk;
      pends = k.pends;
      rules_used = λ T es g l. absurd (omega arith);
      kept = k.kept;
    }

pub returns-then-node-eq0 : goal.returns-then-node-eq0
returns-then-node-eq0 c =
    let m = goal.at.returns-then-node-eq0 c in
    let p : In-Some = m.In-Some in
    let n : At-loop-place = m.At-loop-place in
    let k = keeps p in
    let t = told p in
    record {
      result = λ T es g. no_rule _ _ _ _ _ _ _ _ (c.walk.invariant.1 T es g) c.if-flat-at.false t.0 c.if-flat-at-ne-USE_TAG.false
          (none_found (at_node n) c.load16-place.result c.load16-place.ensures (other_key m.Else-is_rule_of) _ c.link-node.ensures c.if-node-eq0.true T g.rules_stand) _;
      inside = within m.At-walk;
      pends = k.pends;
      rules_used = λ T es g l. absurd (omega arith);
      kept = k.kept;
    }
