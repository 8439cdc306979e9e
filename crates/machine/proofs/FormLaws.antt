-- One term begun: tensors, whose goals are parted by the left term's arity; atomic terms, whose rule is looked up; defined tactics, whose body is.
-- Assumes nothing.
use Prim.Native.Nat.{ℕ, ◌+◌, ◌*◌, ◌-◌, ◌≤◌, ◌<◌}
use mathlib.Core.Path.{◌≡◌, refl, sym, ap, subst, ◌∙◌}
use mathlib.Core.Bool.{Bool, cond}
use mathlib.Core.List.{List, ◌∷◌}
use mathlib.Core.Option.{Option, none, some}
use native.Mathlib.Omega.{arith}
use lib.ListN.{length, get_or, take, drop}
use lib.Seq.{paste}
use borrow.Author.Tests.{le-leb, lt-leb}
use Rattle.std.specs.Prelude as std
use Rattle.std.specs.Prelude.{Some, None}
use Rattle.words.specs.Word.{word, put_word}
use Rattle.words.proofs.WordLaws.{word_same}
use Rattle.format.specs.declared.values.RuleName.{RuleName}
use Rattle.format.specs.declared.values.Goal.{Goal}
use Rattle.format.specs.declared.values.TacticNo.{TacticNo}
use Rattle.format.specs.Goals.{goals_at}
use Rattle.format.specs.Limits.{most_held}
use Rattle.format.specs.Terms.{Term, atomic, tensor, defined, size, fields}
use Rattle.format.specs.Standing.{Head, Stands}
use Rattle.format.proofs.GoalsLaws.{length-goals_at}
use Rattle.format.proofs.GoalsAt.{take_goals, drop_goals, goals_paste}
use Rattle.tables.specs.declared.lookup.RuleFound.{RuleFound}
use Rattle.tables.specs.Tables.{Table}
use Rattle.tables.specs.Standing.{TableStands}
use Rattle.tables.specs.Found.{rule_found, FindsRule, BodyStands, BodyPlaced, FindsBody}
use Rattle.tables.specs.Places.{body_place}
use Rattle.evaluation.specs.Outcomes.{Ending, split_at, finished, found_premises, rule_gives}
use Rattle.evaluation.specs.Machine.{past, tensor_left, held}
use Rattle.arities.specs.Arities.{arity_code}
use Rattle.tactics.specs.Memory.{Same, Only}
use Rattle.tactics.specs.Numbers.{put_header}
use Rattle.tactics.proofs.MemoryLaws.{only_then, only_wider, only_word, only_copy, same_word, same_head}
use Rattle.tactics.proofs.FormLaws.{not_one_at, by_none}
use Rattle.tactics.proofs.FoundLaws.{rule_gives_lem, body_stands, body_placed}
use Rattle.tactics.proofs.NumberLaws.{only_header, header_tag, header_head}
use Rattle.tactics.specs.Source.{source}
use Rattle.frames.specs.Frames.{put_frame}
use Rattle.machine.specs.declared.state.State.{State}
use Rattle.machine.specs.Shows.{GoalsIs, FrameIs, Ends, Config, next, done, Holds}
use Rattle.machine.specs.Begun.{enter, Room, Begins, BeginsIn, failed, exceeded, entered, tensor_next, tensor_frame, atomic_next, rule_next, used, defined_next, unfolded}
use Rattle.machine.specs.Step.{Grown}
use Rattle.machine.proofs.KeepLaws.{kept-behind, frames_kept}
use Rattle.machine.proofs.HeldLaws.{within-fits, within_over}
use Rattle.machine.proofs.BeginLaws.{holds_none, place_on, fail_holds, fail_begins, exceed_begins, goals_stay, frames_stay, beyond_output, only_push, goals_under, push_here, enter-grown, enter-sizes}

-- the number that stands for an arity
code_none : (o : Option ℕ) (n : ℕ) → n ≡ arity_code o → n ≡ 0 → o ≡ none
code_none none n e z = refl
code_none (some m) n e z = absurd (omega (arith, e, z))

code_some : (o : Option ℕ) (n : ℕ) → n ≡ arity_code o → (n ≡ 0 → ⊥) → o ≡ some (n - 1)
code_some none n e z = absurd (z e)
code_some (some m) n e z = let q : m ≡ n - 1 = omega (arith, e) in ap some q

module _ (w : List ℕ) (s : State) (room : Room w s) where
  count_of : (g : List Goal) → GoalsIs w s.arena s.start s.count g → length g ≡ s.count
  count_of g h = sym (ap length h.are) ∙ length-goals_at s.count w s.start

  -- a tensor
  abbrev Tensors : ℕ → ℕ → List ℕ → State → Type 0
  Tensors right n v r = (o : Option ℕ) (t u : Term) → right ≡ s.at + 3 + size t → n ≡ arity_code o → Begins w s v r (tensor t u) (tensor_next o t u)

  pub tensor_without : (right n : ℕ) (r : State) → n ≡ 0 → r ≡ failed s → Tensors right n w r
  tensor_without right n r z q =
      λ o t u e a. fail_begins w s room (tensor t u) (tensor_next o t u) (λ π g k h. ap (λ (x : Option ℕ). tensor_next x t u π g k) (code_none o n a z)) r q

  pub tensor_short : (right n : ℕ) (r : State) → (n ≡ 0 → ⊥) → s.count < n - 1 → r ≡ failed s → Tensors right n w r
  tensor_short right n r z c q =
      λ o t u e a. fail_begins w s room (tensor t u) (tensor_next o t u)
      (λ π g k h. ap (λ (x : Option ℕ). tensor_next x t u π g k) (code_some o n a z)
      ∙ ap (λ (b : Bool). enter (cond b (some (split_at (n - 1) g)) none) k (λ p. next (past π 3) t p.left_goals (tensor_left (past π (3 + size t)) u p.right_goals ∷ k)))
      (lt-leb (n - 1) (length g) (omega (arith, c, count_of g (h)))))
      r q

  pub tensor_split : (right n : ℕ) (v : List ℕ) (r : State) → (n ≡ 0 → ⊥)
      → ((t u : Term) → right ≡ s.at + 3 + size t → Begins w s v r (tensor t u) (tensor_next (some (n - 1)) t u)) → Tensors right n v r
  tensor_split right n v r z b = λ o t u e a. subst (λ (x : Option ℕ). Begins w s v r (tensor t u) (tensor_next x t u)) (sym (code_some o n a z)) (b t u e)

  pub split_end : (right n : ℕ) (v : List ℕ) → n ≤ s.count → v ≡ put_frame (put_header w s.out 20 0) (s.top - 19) (tensor_frame s right n)
      → ((t u : Term) → right ≡ s.at + 3 + size t → Begins w s v (entered s 3 n (s.out + 3)) (tensor t u) (tensor_next (some n) t u)) × Grown w s v (entered s 3 n (s.out + 3))
  unfolding Holds FrameIs Stands
  split_end right n v c q =
      let y = put_header w s.out 20 0 in
      let f = tensor_frame s right n in
      let z = put_frame y (s.top - 19) f in
      let r = entered s 3 n (s.out + 3) in
      let only = only_header w s.out 20 0 in
      let push = only_push w s room y only.same_length f in
      let tag : get_or z s.out 0 ≡ 20 = push.kept.below s.out (omega (arith, room.output_fits, room.frames_low)) ∙ header_tag w s.out 20 0 (omega (arith, room.output_fits, room.space)) in
      subst (λ (x : List ℕ). ((t u : Term) → right ≡ s.at + 3 + size t → Begins w s x r (tensor t u) (tensor_next (some n) t u)) × Grown w s x r) (sym q) (
        λ t u e table job π g k h.
            let all : GoalsIs z s.arena s.start s.count g =
            goals_under w s room y only.same_length f s.start s.count g (goals_stay w s room y 3 only (omega arith) g h.goals) in
            let left : GoalsIs z s.arena s.start n (take n g) =
            record { low = all.low; high = omega (arith, all.high, c); few = omega (arith, all.few, c); are = sym (take_goals z s.start n s.count c) ∙ ap (λ (l : List Goal). take n l) all.are } in
            let others : GoalsIs z s.arena (s.start + n * 2) (s.count - n) (drop n g) =
            record { low = omega (arith, all.low); high = omega (arith, all.high, c); few = omega (arith, all.few); are = sym (drop_goals z s.start n s.count c) ∙ ap (λ (l : List Goal). drop n l) all.are } in
            let so : tensor_next (some n) t u π g k ≡ next (past π 3) t (take n g) (tensor_left (past π (3 + size t)) u (drop n g) ∷ k) =
            ap (λ (b : Bool). enter (cond b (some (split_at n g)) none) k (λ p. next (past π 3) t p.left_goals (tensor_left (past π (3 + size t)) u p.right_goals ∷ k)))
            (le-leb n (length g) (omega (arith, c, count_of g h.goals))) in
            subst (λ (x : Config). Holds table job z r x) (sym so)
            (record {
              mode_is = refl;
              place_is = place_on s π 3 (s.at + 3) h.place_is refl;
              stands = h.stands.1;
              goals = left;
              frames = push_here w s room y only.same_length f table job (s.out + 3) (tensor_left (past π (3 + size t)) u (drop n g)) k refl refl refl h.held_is h.sizes
                  (frames_stay w s room y 3 only (omega arith) table job k h.frames)
                  (refl, refl, tag, subst (λ (p : ℕ). Stands (source table job s.file) p u) (sym e) h.stands.2, others, place_on s π (3 + size t) right h.place_is (omega (arith, e)));
              held_is = h.held_is ∙ sym (holds_none (tensor_left (past π (3 + size t)) u (drop n g)) k refl);
              sizes = enter-sizes w s room 3 n (s.out + 3) h.sizes (omega arith);
            }),
        enter-grown w s room y only.same_length f (beyond_output w s room y 3 only (omega arith)) 3 n (s.out + 3),
      )

  one_atomic : (a : RuleName) → fields (atomic a) ≡ 1
  unfolding fields
  one_atomic a = refl

  -- a rule whose field cannot be held
  pub use_exceeds : (b : List ℕ) (place n name : ℕ) (r : State) → most_held ≤ s.held → r ≡ exceeded s
      → (a : RuleName) → name ≡ a.0 → Begins w s w r (atomic a) (atomic_next a (some (goals_at b place n)))
  use_exceeds b place n name r full q =
      λ a e. exceed_begins w s room (atomic a) (atomic_next a (some (goals_at b place n)))
      (λ π g k i h. ap (λ (x : Ending). done x k) (within_over (held k) (atomic a) (goals_at b place n) (omega (arith, one_atomic a, full, i)))) r q

  -- a rule used
  pub use_end : (b : List ℕ) (place n name : ℕ) (y₁ y v : List ℕ) → s.held < most_held → n ≤ 8 → place + n * 2 ≤ length b
      → y₁ ≡ put_header w s.out 16 2 → y ≡ put_word y₁ (s.out + 3) name → v ≡ paste y s.arena (drop place b) (n * 2)
      → ((a : RuleName) → name ≡ a.0 → Begins w s v (used s n) (atomic a) (atomic_next a (some (goals_at b place n)))) × Grown w s v (used s n)
  unfolding Holds Ends Stands size
  use_end b place n name y₁ y v fits few inside q₁ q₂ q₃ =
      let low = room.goals_low in
      let only₁ : Only s.out (s.out + 3) w y₁ = subst (λ (x : List ℕ). Only s.out (s.out + 3) w x) (sym q₁) (only_header w s.out 16 2) in
      let only₂ : Only (s.out + 3) (s.out + 3 + 2) y₁ y = subst (λ (x : List ℕ). Only (s.out + 3) (s.out + 3 + 2) y₁ x) (sym q₂) (only_word y₁ (s.out + 3) name) in
      let only : Only s.out (s.out + 5) w y = only_then s.out (s.out + 5) w y₁ y
      (only_wider s.out (s.out + 3) s.out (s.out + 5) w y₁ only₁ (omega arith) (omega arith))
      (only_wider (s.out + 3) (s.out + 3 + 2) s.out (s.out + 5) y₁ y only₂ (omega arith) (omega arith)) in
      let l₁ = only₁.same_length in
      let ly = only.same_length in
      let fit : s.arena + n * 2 ≤ length y = omega (arith, ly, few, room.goals_fit, room.space) in
      let only₃ : Only s.arena (s.arena + n * 2) y v =
      subst (λ (x : List ℕ). Only s.arena (s.arena + n * 2) y x) (sym q₃) (only_copy y b s.arena place (n * 2) fit inside) in
      let there : goals_at v s.arena n ≡ goals_at b place n = ap (λ (x : List ℕ). goals_at x s.arena n) q₃ ∙ goals_paste y b s.arena place n fit inside in
      let out_same : Same 0 (s.out + 5) y v = λ i l r. only₃.kept.below i (omega (arith, low, room.output_fits)) in
      let head : Head v s.out 16 2 =
      same_head y v only₃.same_length 0 (s.out + 5) s.out 16 2 out_same (omega arith) (omega arith)
      (same_head y₁ y only₂.same_length 0 (s.out + 3) s.out 16 2 (λ i l r. only₂.kept.below i r) (omega arith) (omega arith)
      (subst (λ (x : List ℕ). Head x s.out 16 2) (sym q₁) (header_head w s.out 16 2 (omega (arith, room.output_fits, room.space))))) in
      let val : word v (s.out + 3) ≡ name =
      same_word y v 0 (s.out + 5) (s.out + 3) out_same (omega arith) (omega arith) ∙ ap (λ (x : List ℕ). word x (s.out + 3)) q₂
      ∙ word_same y₁ (s.out + 3) name (omega (arith, l₁, room.output_fits, room.space)) in (
        λ a e table job π g k h. subst (λ (x : Ending). Ends table job v (used s n) x k) (sym (within-fits (held k) (atomic a) (goals_at b place n) (omega (arith, one_atomic a, fits, h.held_is))))
            (record {
              mode_is = refl;
              from = s.out;
              stands = (head, val ∙ e);
              out_is = refl;
              goals = record { low = low; high = omega arith; few = omega (arith, few); are = there };
              few_goals = omega (arith, few, one_atomic a);
              frames = frames_kept y v s.arena (s.arena + n * 2) (omega arith) table job k s.top s.out
                  (kept-behind s.arena (s.arena + n * 2) s.out s.arena s.top y v only₃ (omega (arith, low, room.output_fits)) (omega arith) (omega (arith, few, room.goals_fit, room.frames_low)))
                  (frames_stay w s room y 5 only (omega arith) table job k h.frames);
              held_is = omega (arith, one_atomic a, h.held_is);
              sizes = record {
                output_fits = omega (arith, h.sizes.output_fits);
                held_fits = omega (arith, fits);
                goals_low = omega (arith, low);
                goals_fit = omega (arith, h.sizes.goals_fit, few);
                frames_fit = omega (arith, h.sizes.frames_fit);
              };
            }),
        record {
          beyond = λ i b. only₃.kept.above i (omega (arith, few, room.goals_fit)) ∙ beyond_output w s room y 5 only (omega arith) i b;
          same_length = only₃.same_length ∙ ly;
          one_step = refl;
        },
      )

  -- an atomic term
  module _ (bytes : List ℕ) (first : ℕ) (name : RuleName) where
    abbrev UsesRule : List ℕ → State → Type 0
    UsesRule v r = (T : Table) (a : RuleName) → TableStands bytes first T → name.0 ≡ a.0 → Begins w s v r (atomic a) (rule_next T a)

    pub rule_fails : (r : State) → (s.count ≡ 1 → ⊥) → r ≡ failed s → UsesRule w r
    rule_fails r c q =
        λ T a st e. fail_begins w s room (atomic a) (rule_next T a) (λ π g k h. by_none w s.start s.count (rule_gives T a) (λ o. done (finished (held k) (atomic a) o) k) g h.are (not_one_at w s.start _ s.count c)) r q

    module _ (goal : Goal) (o : std.Option RuleFound) (c : s.count ≡ 1) (e : goal.0 ≡ word w s.start) (f : FindsRule bytes first name goal o) where
      pub rule_missing_lem : (r : State) → o ≡ None → r ≡ failed s → UsesRule w r
      unfolding rule_found
      rule_missing_lem r m q =
          λ T a st i. fail_begins w s room (atomic a) (rule_next T a)
          (λ π g k h. ap (λ (x : Option (List Goal)). done (finished (held k) (atomic a) x) k) (rule_gives_lem bytes first name goal o f w s.start s.count c e T a g st i h.are ∙ ap (λ (x : std.Option RuleFound). found_premises (rule_found bytes x)) m)) r q

      module _ (rule : RuleFound) (m : o ≡ Some rule) where
        pub rule_used : (v : List ℕ) (r : State) → ((a : RuleName) → name.0 ≡ a.0 → Begins w s v r (atomic a) (atomic_next a (some (goals_at bytes rule.place rule.count)))) → UsesRule v r
        unfolding rule_found
        rule_used v r b =
            λ T a st i table job π g k h. subst (λ (x : Option (List Goal)). Holds table job v r (done (finished (held k) (atomic a) x) k))
            (sym (rule_gives_lem bytes first name goal o f w s.start s.count c e T a g st i h.goals.are ∙ ap (λ (x : std.Option RuleFound). found_premises (rule_found bytes x)) m)) (b a i table job π g k h)

  -- a defined tactic
  module _ (bytes : List ℕ) (first : ℕ) (number : TacticNo) (o : std.Option ℕ) (f : FindsBody bytes first number o) where
    abbrev Unfolds : State → Type 0
    Unfolds r = (T : Table) (d : TacticNo) (job : List ℕ) → TableStands bytes first T → number.0 ≡ d.0 → BeginsIn bytes job w s w r (defined d) (defined_next T d)

    pub body_missing : (r : State) → o ≡ None → r ≡ failed s → Unfolds r
    unfolding BodyStands BodyPlaced
    body_missing r m q =
        λ T d job st i π g k h. subst (λ (x : Option Term). Holds bytes job w r (enter x k (λ t. next (record { file = 0; at = body_place T d }) t g k))) (sym (body_stands bytes first number o f T d None st i m)) (fail_holds w s room bytes job π (defined d) g k r q h)

    pub body_found : (place : ℕ) → o ≡ Some place → Unfolds (unfolded s place)
    unfolding BodyStands BodyPlaced Holds
    body_found place m =
        λ T d job st i π g k h.
        let b = body_stands bytes first number o f T d (Some place) st i m in
        subst (λ (x : Option Term). Holds bytes job w (unfolded s place) (enter x k (λ t. next (record { file = 0; at = body_place T d }) t g k))) (sym b.1)
        (record {
          mode_is = refl;
          place_is = ap (λ (x : ℕ). record { file = 0; at = x }) (body_placed bytes first number o f T d (Some place) st i m);
          stands = b.2;
          goals = h.goals;
          frames = h.frames;
          held_is = h.held_is;
          sizes = record {
            output_fits = omega (arith, h.sizes.output_fits);
            held_fits = h.sizes.held_fits;
            goals_low = h.sizes.goals_low;
            goals_fit = h.sizes.goals_fit;
            frames_fit = omega (arith, h.sizes.frames_fit);
          };
        })
