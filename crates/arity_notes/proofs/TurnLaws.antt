-- The turns of a walk, one law for each: where it stands afterwards.
-- Assumes nothing.
use Prim.Native.Nat.{ℕ, suc, ◌+◌, ◌*◌, ◌≤◌, ◌<◌}
use mathlib.Core.Path.{◌≡◌, refl, sym, ap, subst, ◌∙◌}
use mathlib.Core.List.{List, [], ◌∷◌}
use mathlib.Core.Option.{Option, some, none-ne-some}
use mathlib.Core.Logic.{◌⊎◌, inl, inr}
use native.Mathlib.Omega.{arith}
use lib.ListN.{length, get_or}
use Rattle.words.specs.Word.{word, put_word}
use Rattle.words.specs.Kept.{Kept}
use Rattle.words.proofs.WordLaws.{length-put_word, word_same}
use Rattle.format.specs.declared.values.TacticNo.{TacticNo}
use Rattle.format.specs.Values.{tactic_no}
use Rattle.format.specs.Terms.{Term, sequence, defined, size}
use Rattle.format.specs.Standing.{Stands}
use Rattle.format.proofs.StandsLaws.{known}
use Rattle.tables.specs.declared.repeats.Repeat.TheVariants as K
use Rattle.tables.specs.Tables.{Table}
use Rattle.tables.specs.Lookup.{find_body}
use Rattle.index.specs.Build.{DefinitionsIndexed}
use Rattle.index.proofs.IndexKept.{indexed_before}
use Rattle.evaluation.specs.TacticArity.{arity_in, body_arity}
use Rattle.evaluation.proofs.UnfoldingLaws.{after_fixed}
use Rattle.input_arities.specs.Threads.{slot}
use Rattle.tactics.specs.Memory.{Same, Only}
use Rattle.tactics.specs.Numbers.{put_header}
use Rattle.tactics.proofs.MemoryLaws.{only_word, same_word}
use Rattle.tactics.proofs.NumberLaws.{only_header, header_tag, header-length}
use Rattle.arities.specs.Layout.{frames_end, space_end}
use Rattle.arity_notes.specs.Regions.{definitions_place, regions_end}
use Rattle.arities.specs.Arities.{arity_code, arities, Pair}
use Rattle.arity_notes.specs.Notes.{NotedLeft}
use Rattle.arity_notes.proofs.NoteLaws.{slot_inside}
use Rattle.arity_notes.specs.declared.walk.Next.{Next as Said}
use Rattle.arity_notes.specs.declared.walk.Next.TheVariants as N
use Rattle.arity_notes.specs.declared.walk.Walk.{Walk}
use Rattle.arity_notes.specs.Waits.{Both, combine, Wait, for_left, for_right, for_body, for_root, left_kind, right_kind, WaitIs, StackAt, Walked}
use Rattle.arity_notes.specs.Asked.{Known, Asked, Turn, asks, tells, asked_by, TurnIs, turn_weight, stack_weight, Standing}
use Rattle.arity_notes.specs.Cells.{cell, Cells, unwalked}
use Rattle.arity_notes.specs.Noting.{AskedNoted, StackAhead, TurnAhead, turn_low, turn_end, Beyond}
use Rattle.arity_notes.specs.Walks.{Mode, finds, notes, ModeIs, Walking, Turned}
use Rattle.arity_notes.proofs.CycleLaws.{code_most}
use Rattle.arity_notes.proofs.StackLaws.{stack_most, stack_same}
use Rattle.arity_notes.proofs.CellLaws.{cell_same, cells_same, unwalked_same, cells_stack, cells_begun, cells_learnt, put_grows, put-unwalked, begun-unwalked}
use Rattle.arity_notes.proofs.NotingLaws.{beyond_from, quiet, noting}

-- an arity is told once
pub tells_same : (x : Said) (i j : ℕ) → x ≡ N.Tells i → x ≡ N.Tells j → i ≡ j
tells_same x i j e f = cc

-- the index over the definitions stays
pub index_still : (bytes : List ℕ) (first : ℕ) (w v : List ℕ) → length v ≡ length w → ((i : ℕ) → definitions_place ≤ i → get_or v i 0 ≡ get_or w i 0) → DefinitionsIndexed bytes first w definitions_place → DefinitionsIndexed bytes first v definitions_place
index_still bytes first w v l same x =
    let k : Kept w v 0 definitions_place = record { below = λ i h. absurd (omega (arith, h)); above = λ i h. same i h } in
    (x.0, x.1, indexed_before K.Tactic bytes x.0 w v definitions_place 0 definitions_place l k (omega arith) x.2)

-- three bytes behind a stack that has room
module _ (w : List ℕ) (space : regions_end ≤ length w) (src : List ℕ) (k : List Wait) (top : ℕ) (stack : StackAt src w k top) (few : stack_weight k ≤ 65536) where
  pub top_most : top ≤ 196608
  top_most = omega (arith, stack_most src w k top stack, few)

  module _ (kind value : ℕ) (v : List ℕ) (e : v ≡ put_header w top kind value) where
    put_only : Only top (top + 3) w v
    put_only = subst (λ (x : List ℕ). Only top (top + 3) w x) (sym e) (only_header w top kind value)

    pub put_beyond : (i : ℕ) → frames_end ≤ i → get_or v i 0 ≡ get_or w i 0
    put_beyond i h = put_only.kept.above i (omega (arith, h, top_most))

    pub put-length : length v ≡ length w
    put-length = put_only.same_length

    pub put_stack : (x : Wait) → WaitIs src kind value x → StackAt src v (x ∷ k) (top + 3)
    unfolding StackAt
    put_stack x h = (
      top,
      refl,
      subst (λ (a : ℕ). WaitIs src a (word v (top + 1)) x) (sym tag) (subst (λ (b : ℕ). WaitIs src kind b x) (sym val) h),
      stack_same src w v k top (λ i l. put_only.kept.below i l) stack,
    )
      where
        tag : get_or v top 0 ≡ kind
        tag = ap (λ (x : List ℕ). get_or x top 0) e ∙ header_tag w top kind value (omega (arith, top_most, space))

        val : word v (top + 1) ≡ value
        val = ap (λ (x : List ℕ). word x (top + 1)) e ∙ header-length w top kind value (omega (arith, top_most, space))

module _ (m : Mode) (T : Table) (bytes : List ℕ) (first : ℕ) (src : List ℕ) (base : ℕ) (w : List ℕ) (s : Walk) where
  abbrev At : Turn → List Wait → Type 0
  At c k = Walking m T bytes first src base w s c k

  abbrev weight : Turn → List Wait → ℕ
  weight c k = turn_weight c + stack_weight k + unwalked w T.definitions

  abbrev Next : ℕ → List ℕ → Walk → Type 0
  Next n v r = Turned m T bytes first src base w n v r

  -- the mode after a turn that makes no note
  mode_quiet : (v : List ℕ) → ((i : ℕ) → frames_end ≤ i → get_or v i 0 ≡ get_or w i 0) → (c e : Turn) (k j : List Wait) → At c k
      → ((limit : ℕ) → Beyond (turn_end c) limit k → Beyond (turn_end e) limit j) → turn_low c ≤ turn_low e
      → ((x : List ℕ) → TurnAhead x base (arities T) e → StackAhead x base (arities T) j → TurnAhead x base (arities T) c × StackAhead x base (arities T) k)
      → ModeIs m T bytes src base v e j
  unfolding ModeIs
  mode_quiet v same c e k j q b l f = go m q.mode_is
    where
      go : (n : Mode) → ModeIs n T bytes src base w c k → ModeIs n T bytes src base v e j
      go finds h = h
      go (notes from root w₀) h = quiet T base from root w₀ q.base_is.low w v same c e k j h (b (from + size root) h.beyond) l f

  -- nothing is written
  module _ (c : Turn) (k : List Wait) (q : At c k) where
    still : (r : Walk) (e : Turn) (j : List Wait) → TurnIs T src r e → StackAt src w j r.top → Standing e j → Asked T (asked_by e) j → Cells T w j → turn_weight e + stack_weight j < turn_weight c + stack_weight k
        → ModeIs m T bytes src base w e j → Next (weight c k) w r
    still r e j turn stack standing asked cells less mode = record {
      turn = e;
      stack = j;
      walking = record {
        small = q.small;
        space = q.space;
        base_is = q.base_is;
        table_stands = q.table_stands;
        indexed = q.indexed;
        turn_is = turn;
        stack = stack;
        standing = standing;
        asked = asked;
        cells = cells;
        few = omega (arith, q.few, less);
        mode_is = mode;
      };
      less = omega (arith, less);
      same_length = refl;
      grows = λ d h e. e;
      beyond = λ i h. refl;
    }

  -- a term that is asked
  module _ (at : ℕ) (t : Term) (k : List Wait) (q : At (asks at t) k) where
    pub asked_stands : Stands src at t
    unfolding TurnIs
    asked_stands = q.turn_is.1

    pub asked_top : (s.top ≤ 196608) × (stack_weight k ≤ 65536)
    asked_top = let h : stack_weight k ≤ 65536 = omega (arith, q.few) in (top_most w q.space src k s.top q.stack h, h)

    -- its arity is told at once
    pub told : (n : ℕ) → n ≡ arity_code (arity_in (arities T) t) → ((x : List ℕ) → AskedNoted x base (arities T) at t) → Next (weight (asks at t) k) w (record { next = N.Tells (n); top = s.top })
    unfolding TurnIs Standing asked_by turn_weight turn_end turn_low TurnAhead
    told n e f =
        let z = (known src at t asked_stands).three in
        still (asks at t) k q _ (tells (at + size t) (λ g. arity_in g t)) k (ap N.Tells e) q.stack tt q.asked q.cells (omega (arith, z))
        (mode_quiet w (λ i h. refl) (asks at t) (tells (at + size t) (λ g. arity_in g t)) k k q (λ limit b. b) (omega (arith, z)) (λ x h i. (f x, i)))

  -- a sequence asks its left term
  pub leads : (at : ℕ) (t u : Term) (k : List Wait) → At (asks at (sequence t u)) k → Stands src (at + 3) t → Next (weight (asks at (sequence t u)) k) w (record { next = N.Asks (at + 3); top = s.top })
  unfolding TurnIs Standing asked_by arity_in turn_weight turn_end turn_low TurnAhead AskedNoted size
  leads at t u k q st =
      still (asks at (sequence t u)) k q _ (asks (at + 3) t) k (refl, st) q.stack (stands k q.standing) q.asked q.cells (omega arith)
      (mode_quiet w (λ i h. refl) (asks at (sequence t u)) (asks (at + 3) t) k k q (λ limit b. beyond_from k (at + 3 + size t) (at + (3 + size t + size u)) limit (omega arith) b) (omega arith) (λ x h i. (h, i)))
    where
      stands : (j : List Wait) → Standing (asks at (sequence t u)) j → Standing (asks (at + 3) t) j
      stands [] h = h
      stands (x ∷ j) h = tt

  -- a tensor or an alternation waits for its left term
  module _ (b : Both) (at : ℕ) (whole t u : Term) (k : List Wait) (q : At (asks at whole) k) (size_is : size whole ≡ 3 + size t + size u) (pair : Pair src at t u) where
    pub waits : Asked T (λ f. combine b (arity_in f t) (arity_in f u)) k
        → ((x : List ℕ) → NotedLeft x base (arities T) (at + 3 + size t) t → AskedNoted x base (arities T) (at + 3) t → AskedNoted x base (arities T) (at + 3 + size t) u → AskedNoted x base (arities T) at whole)
        → (v : List ℕ) → v ≡ put_header w s.top (left_kind b) at → Next (weight (asks at whole) k) v (record { next = N.Asks (at + 3); top = s.top + 3 })
    unfolding TurnIs Standing Asked asked_by turn_weight stack_weight turn_end turn_low TurnAhead StackAhead Beyond WaitIs Walked
    waits asked f v e =
        let top = asked_top at whole k q in
        let far = put_beyond w q.space src k s.top q.stack top.1 (left_kind b) at v e in
        let len = put-length w q.space src k s.top q.stack top.1 (left_kind b) at v e in
        let same : Same frames_end space_end w v = λ i l r. far i l in
        let u_same = unwalked_same w v same T.definitions in
        record {
          turn = asks (at + 3) t;
          stack = for_left b at t u ∷ k;
          walking = record {
            small = q.small;
            space = omega (arith, q.space, len);
            base_is = q.base_is;
            table_stands = q.table_stands;
            indexed = index_still bytes first w v len (λ i l. far i (omega (arith, l))) q.indexed;
            turn_is = (refl, pair.0);
            stack = put_stack w q.space src k s.top q.stack top.1 (left_kind b) at v e (for_left b at t u) (refl, refl, pair);
            standing = tt;
            asked = (λ g. refl, asked);
            cells = cells_same w v same T (for_left b at t u ∷ k) (cells_stack T w k (for_left b at t u ∷ k) (λ d h. h) q.cells);
            few = omega (arith, q.few, size_is, u_same);
            mode_is =
                mode_quiet v far (asks at whole) (asks (at + 3) t) k (for_left b at t u ∷ k) q
                (λ limit h. (omega arith, subst (λ (p : ℕ). Beyond p limit k) places h)) (omega arith) (λ x h i. (f x i.0 h i.1, i.2));
          };
          less = omega (arith, size_is, u_same);
          same_length = len;
          grows = λ d h z. sym (cell_same w v same d h) ∙ z;
          beyond = λ i l. far i (omega (arith, l));
        }
      where
        places : at + size whole ≡ at + 3 + size t + size u
        places = omega (arith, size_is)

  -- the body of a defined tactic of which nothing is known is asked
  module _ (at : ℕ) (d : TacticNo) (k : List Wait) (q : At (asks at (defined d)) k) (small : d.0 < 65536) (zero-cell : cell w d.0 ≡ 0) (place : ℕ) (t : Term) (body : find_body T d ≡ some t) (st : Stands bytes place t) where
    abbrev marked : List ℕ
    marked = put_word w (frames_end + d.0 * 2) 1

    found_in : (n : Mode) → ModeIs n T bytes src base w (asks at (defined d)) k → (src ≡ bytes) × ((v : List ℕ) → ModeIs n T bytes src base v (asks place t) (for_body d ∷ k))
    unfolding ModeIs
    found_in finds h = (h, λ v. h)
    found_in (notes from root w₀) h = absurd (none-ne-some t (sym (h.known d.0 small zero-cell) ∙ body))

    marked_same : (i : ℕ) → (i < frames_end) ⊎ (space_end ≤ i) → get_or marked i 0 ≡ get_or w i 0
    marked_same i (inl h) = (only_word w (frames_end + d.0 * 2) 1).kept.below i (omega (arith, h))
    marked_same i (inr h) = (only_word w (frames_end + d.0 * 2) 1).kept.above i (omega (arith, h, small))

    marked_stack : StackAt src marked k s.top
    marked_stack = stack_same src w marked k s.top (λ i h. marked_same i (inl (omega (arith, h, asked_top at (defined d) k q)))) q.stack

    marked_space : regions_end ≤ length marked
    marked_space = omega (arith, q.space, length-put_word w (frames_end + d.0 * 2) 1)

    pub enters : (v : List ℕ) → v ≡ put_header marked s.top 5 d.0 → Next (weight (asks at (defined d)) k) v (record { next = N.Asks (place); top = s.top + 3 })
    unfolding TurnIs Standing Asked asked_by arity_in turn_weight stack_weight WaitIs size find_body
    enters v e =
        let top = asked_top at (defined d) k q in
        let mode = found_in m q.mode_is in
        let far = put_beyond marked marked_space src k s.top marked_stack top.1 5 d.0 v e in
        let len : length v ≡ length w = put-length marked marked_space src k s.top marked_stack top.1 5 d.0 v e ∙ length-put_word w (frames_end + d.0 * 2) 1 in
        let same : Same frames_end space_end marked v = λ i l r. far i l in
        let u_same = unwalked_same marked v same T.definitions in
        let less = begun-unwalked w d.0 small q.space zero-cell 1 (λ z. absurd (omega (arith, z))) T.definitions t body in
        let stay : (i : ℕ) → definitions_place ≤ i → get_or v i 0 ≡ get_or w i 0 = λ i l. far i (omega (arith, l)) ∙ marked_same i (inr (omega (arith, l))) in
        record {
          turn = asks place t;
          stack = for_body d ∷ k;
          walking = record {
            small = q.small;
            space = omega (arith, q.space, len);
            base_is = q.base_is;
            table_stands = q.table_stands;
            indexed = index_still bytes first w v len stay q.indexed;
            turn_is = (refl, subst (λ (b : List ℕ). Stands b place t) (sym mode.0) st);
            stack = put_stack marked marked_space src k s.top marked_stack top.1 5 d.0 v e (for_body d) (refl, refl);
            standing = tt;
            asked = (λ f. ap (body_arity f) (sym body), q.asked);
            cells = cells_same marked v same T (for_body d ∷ k) (cells_begun w d.0 small q.space T k q.cells);
            few = omega (arith, q.few, u_same, less);
            mode_is = mode.1 v;
          };
          less = omega (arith, u_same, less);
          same_length = len;
          grows = λ c h z. put_grows w d.0 small q.space 1 (λ y. absurd (omega (arith, y))) c (sym (cell_same marked v same c h) ∙ z);
          beyond = stay;
        }

  -- an arity told to the last term that waits
  module _ (end : ℕ) (a : Known → Option ℕ) (x : Wait) (k : List Wait) (q : At (tells end a) (x ∷ k)) where
    pub told_arity : (arity : ℕ) → s.next ≡ N.Tells arity → arity ≡ arity_code (a (arities T))
    unfolding TurnIs
    told_arity arity telling = tells_same s.next arity (arity_code (a (arities T))) telling q.turn_is

    pub last_stack : (low : ℕ) × (s.top ≡ low + 3) × WaitIs src (get_or w low 0) (word w (low + 1)) x × StackAt src w k low
    unfolding StackAt
    last_stack = q.stack

  -- both arities are there
  pub combines : (end : ℕ) (a : Known → Option ℕ) (b : Both) (o : Option ℕ) (k : List Wait) (low : ℕ) → At (tells end a) (for_right b o ∷ k) → s.top ≡ low + 3 → StackAt src w k low
      → (n : ℕ) → n ≡ arity_code (combine b o (a (arities T))) → Next (weight (tells end a) (for_right b o ∷ k)) w (record { next = N.Tells (n); top = low })
  unfolding TurnIs Standing Asked asked_by turn_weight stack_weight turn_end turn_low TurnAhead StackAhead Beyond Walked
  combines end a b o k low q top st n e =
      let h = q.asked in
      let c : Turn = tells end (λ f. combine b (h.0 f) (a f)) in
      still (tells end a) (for_right b o ∷ k) q _ c k (ap N.Tells (e ∙ ap (λ y. arity_code (combine b y (a (arities T)))) (sym h.1))) st tt h.2 (cells_stack T w (for_right b o ∷ k) k (λ d y. y) q.cells) (omega arith)
      (mode_quiet w (λ i y. refl) (tells end a) c (for_right b o ∷ k) k q (λ limit y. y) (omega arith) (λ y z i. (tt, i)))

  -- the walk's own term told its arity
  pub roots : (end : ℕ) (a : Known → Option ℕ) (k : List Wait) (low : ℕ) → At (tells end a) (for_root ∷ k) → s.top ≡ low + 3 → StackAt src w k low
      → (n : ℕ) → n ≡ arity_code (a (arities T)) → Next (weight (tells end a) (for_root ∷ k)) w (record { next = N.Tells (n); top = low })
  unfolding TurnIs Standing Asked asked_by turn_weight stack_weight turn_end turn_low TurnAhead StackAhead Beyond Walked
  roots end a k low q top st n e =
      still (tells end a) (for_root ∷ k) q _ (tells end a) k (ap N.Tells e) st tt q.asked (cells_stack T w (for_root ∷ k) k (λ d y. y) q.cells) (omega arith)
      (mode_quiet w (λ i y. refl) (tells end a) (tells end a) (for_root ∷ k) k q (λ limit y. y) (omega arith) (λ y z i. (tt, i)))

  -- the body of a tactic told its arity
  module _ (end : ℕ) (a : Known → Option ℕ) (d : TacticNo) (k : List Wait) (low : ℕ) (q : At (tells end a) (for_body d ∷ k)) (arity : ℕ) (telling : s.next ≡ N.Tells arity) (small : d.0 < 65536) (top : s.top ≡ low + 3) (st : StackAt src w k low) where
    body_code : arity ≡ arity_code (arities T d)
    unfolding TurnIs Asked asked_by find_body
    body_code = told_arity end a (for_body d) k q arity telling ∙ ap arity_code (q.asked.0 (arities T) ∙ sym (after_fixed T.definitions d))

    pub body_small : arity < 65535
    body_small = omega (arith, body_code, code_most T d)

    no_note : (n : Mode) → ModeIs n T bytes src base w (tells end a) (for_body d ∷ k) → (v : List ℕ) → ModeIs n T bytes src base v (tells end (λ f. f d)) k
    unfolding ModeIs Beyond
    no_note finds h v = h
    no_note (notes from root w₀) h v = absurd h.beyond

    pub learns : (v : List ℕ) → v ≡ put_word w (frames_end + d.0 * 2) (arity + 1) → Next (weight (tells end a) (for_body d ∷ k)) v (record { next = N.Tells (arity); top = low })
    unfolding TurnIs Standing Asked asked_by turn_weight stack_weight Walked
    learns v e =
        let n = arity + 1 in
        let nz : n ≡ 0 → ⊥ = λ z. absurd (omega (arith, z)) in
        let put : Only (frames_end + d.0 * 2) (frames_end + d.0 * 2 + 2) w v = subst (λ (y : List ℕ). Only (frames_end + d.0 * 2) (frames_end + d.0 * 2 + 2) w y) (sym e) (only_word w (frames_end + d.0 * 2) n) in
        let stay : (i : ℕ) → definitions_place ≤ i → get_or v i 0 ≡ get_or w i 0 = λ i l. put.kept.above i (omega (arith, l, small)) in
        let deep = top_most w q.space src (for_body d ∷ k) s.top q.stack (omega (arith, q.few)) in
        let u-less : unwalked v T.definitions ≤ unwalked w T.definitions = subst (λ (y : List ℕ). unwalked y T.definitions ≤ unwalked w T.definitions) (sym e) (put-unwalked w d.0 small q.space n nz T.definitions) in
        let code : n ≡ suc (arity_code (arities T (tactic_no d.0))) = omega (arith, body_code) in
        record {
          turn = tells end (λ f. f d);
          stack = k;
          walking = record {
            small = q.small;
            space = omega (arith, q.space, put.same_length);
            base_is = q.base_is;
            table_stands = q.table_stands;
            indexed = index_still bytes first w v put.same_length stay q.indexed;
            turn_is = ap N.Tells body_code;
            stack = stack_same src w v k low (λ i l. put.kept.below i (omega (arith, l, top, deep))) st;
            standing = tt;
            asked = q.asked.1;
            cells = subst (λ (y : List ℕ). Cells T y k) (sym e) (cells_learnt w d.0 small q.space T k n code q.cells);
            few = omega (arith, q.few, u-less);
            mode_is = no_note m q.mode_is v;
          };
          less = omega (arith, u-less);
          same_length = put.same_length;
          grows = λ c h z. put_grows w d.0 small q.space n nz c (ap (λ (y : List ℕ). cell y c) (sym e) ∙ z);
          beyond = stay;
        }

  -- the left term told its arity: it is noted, and the right term is asked
  module _ (end : ℕ) (a : Known → Option ℕ) (b : Both) (at : ℕ) (t u : Term) (k : List Wait) (low r : ℕ) (q : At (tells end a) (for_left b at t u ∷ k)) (arity : ℕ) (telling : s.next ≡ N.Tells arity) (pair : Pair src at t u) (r-is : r ≡ at + 3 + size t) (top : s.top ≡ low + 3) (st : StackAt src w k low) where
    abbrev noted_w : List ℕ
    noted_w = put_word w (base + slot r) arity

    right_inside : (r + 3 < 65536) × (3 ≤ size u)
    right_inside = let z = known src (at + 3 + size t) u pair.1 in (omega (arith, z.inside, z.three, q.small, r-is), z.three)

    note_only : Only (base + slot r) (base + slot r + 2) w noted_w
    note_only = only_word w (base + slot r) arity

    note_high : base + slot r + 2 ≤ definitions_place
    note_high = omega (arith, slot_inside r right_inside.0, q.base_is.high)

    deep : s.top ≤ 196608
    deep = top_most w q.space src (for_left b at t u ∷ k) s.top q.stack (omega (arith, q.few))

    left_code : arity ≡ arity_code (arity_in (arities T) t)
    unfolding TurnIs Asked asked_by
    left_code = told_arity end a (for_left b at t u) k q arity telling ∙ ap arity_code (q.asked.0 (arities T))

    low_stack : StackAt src noted_w k low
    low_stack = stack_same src w noted_w k low (λ i l. note_only.kept.below i (omega (arith, l, top, deep, q.base_is.low))) st

    noted_space : regions_end ≤ length noted_w
    noted_space = omega (arith, q.space, note_only.same_length)

    light : stack_weight k ≤ 65536
    unfolding stack_weight
    light = omega (arith, q.few)

    pub turns_right : (v : List ℕ) → v ≡ put_header noted_w low (right_kind b) arity → Next (weight (tells end a) (for_left b at t u ∷ k)) v (record { next = N.Asks (r); top = s.top })
    unfolding TurnIs Standing Asked asked_by turn_weight stack_weight WaitIs Walked ModeIs
    turns_right v e =
        let far = put_beyond noted_w noted_space src k low low_stack light (right_kind b) arity v e in
        let len : length v ≡ length w = put-length noted_w noted_space src k low low_stack light (right_kind b) arity v e ∙ note_only.same_length in
        let apart : (i : ℕ) → frames_end ≤ i → (i < base + slot r) ⊎ (base + slot r + 2 ≤ i) → get_or v i 0 ≡ get_or w i 0 = λ i l o. far i l ∙ elsewhere i o in
        let same : Same frames_end space_end w v = λ i l y. apart i l (inl (omega (arith, y, q.base_is.low))) in
        let u_same = unwalked_same w v same T.definitions in
        let stay : (i : ℕ) → definitions_place ≤ i → get_or v i 0 ≡ get_or w i 0 = λ i l. apart i (omega (arith, l)) (inr (omega (arith, l, note_high))) in
        let here : word v (base + slot r) ≡ arity = same_word noted_w v frames_end definitions_place (base + slot r) (λ i l y. far i l) (omega (arith, q.base_is.low)) (omega (arith, note_high)) ∙ word_same w (base + slot r) arity (omega (arith, note_high, q.space)) in
        record {
          turn = asks r u;
          stack = for_right b (arity_in (arities T) t) ∷ k;
          walking = record {
            small = q.small;
            space = omega (arith, q.space, len);
            base_is = q.base_is;
            table_stands = q.table_stands;
            indexed = index_still bytes first w v len stay q.indexed;
            turn_is = (refl, subst (λ (y : ℕ). Stands src y u) (sym r-is) pair.1);
            stack = subst (StackAt src v (for_right b (arity_in (arities T) t) ∷ k)) (sym top) (put_stack noted_w noted_space src k low low_stack light (right_kind b) arity v e (for_right b (arity_in (arities T) t)) (refl, left_code));
            standing = tt;
            asked = ((λ f. arity_in f t), refl, q.asked.1);
            cells = cells_same w v same T (for_right b (arity_in (arities T) t) ∷ k) (cells_stack T w (for_left b at t u ∷ k) (for_right b (arity_in (arities T) t) ∷ k) (λ d y. y) q.cells);
            few = omega (arith, q.few, u_same);
            mode_is = mode_noted v apart here m q.mode_is;
          };
          less = omega (arith, u_same);
          same_length = len;
          grows = λ c h z. sym (cell_same w v same c h) ∙ z;
          beyond = stay;
        }
      where
        elsewhere : (i : ℕ) → (i < base + slot r) ⊎ (base + slot r + 2 ≤ i) → get_or noted_w i 0 ≡ get_or w i 0
        elsewhere i (inl h) = note_only.kept.below i h
        elsewhere i (inr h) = note_only.kept.above i h

        mode_noted : (v : List ℕ) → ((i : ℕ) → frames_end ≤ i → (i < base + slot r) ⊎ (base + slot r + 2 ≤ i) → get_or v i 0 ≡ get_or w i 0) → word v (base + slot r) ≡ arity
            → (n : Mode) → ModeIs n T bytes src base w (tells end a) (for_left b at t u ∷ k) → ModeIs n T bytes src base v (asks r u) (for_right b (arity_in (arities T) t) ∷ k)
        mode_noted v apart here finds h = h
        mode_noted v apart here (notes from root w₀) h =
            noting T base from root w₀ q.base_is.low w v end r at a b t u k (arity_in (arities T) t) h r-is right_inside.1 apart (here ∙ left_code)
