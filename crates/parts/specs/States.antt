-- The states of reading a file: what each field outside terms leaves to be read, and what comes behind a term.
use Rattle.std.specs.Prelude.{ℕ, Ok, Err, ◌+◌, ◌/◌, ◌≡◌, Bool, true, false, cond, List, eqb, leb, ltb, length}
use Rattle.std.specs.Prelude as std
use Rattle.words.specs.Word.{word}
use Rattle.format.specs.declared.headers.Header as read
use Rattle.format.specs.declared.refusals.Refusal.{Refusal}
use Rattle.format.specs.Limits.{most_bytes, most_goals, most_term_fields}
use Rattle.format.specs.declared.refusals.Cause.{Cause}
use Rattle.format.specs.declared.refusals.Cause.TheVariants.{InputTooLong, LimitPassed, LengthWrong}
use Rattle.format.specs.Tags.{definition_kind, goal_list_kind, hiproof_kind, tactic_kind, entry_kind}
use Rattle.format.specs.Next.{full_table, lowest, full_flat}
use Rattle.parts.specs.declared.state.Mode.{Mode}
use Rattle.parts.specs.declared.state.Mode.TheVariants.{Refused, Reads, Gave}
use Rattle.parts.specs.declared.state.Part.{Part}
use Rattle.parts.specs.declared.state.Part.TheVariants.{Roots, Entries, Fields, JobGoals, ProofGoals, Remaining, Body, JobTerm, ProofTerm, Other}
use Rattle.parts.specs.declared.state.Why.{Why}
use Rattle.parts.specs.declared.state.Why.TheVariants.{Known, Number}
use Rattle.parts.specs.declared.state.State.{State}

-- one of three, by the mode: after a refusal, where a field is to be read, and behind a term that was read or at the end of the file
abbrev pub by_mode : {A : Type 0} → Mode → (refused reads gave : A) → A
by_mode Refused a b c = a
by_mode Reads a b c = b
by_mode Gave a b c = c

-- one of four, by the part: the entries of a flat file, the fields of a table, a goal list, a term
abbrev pub by_part : {A : Type 0} → Part → (entries fields list term : A) → A
by_part Roots e f l t = l
by_part Entries e f l t = e
by_part Fields e f l t = f
by_part JobGoals e f l t = l
by_part ProofGoals e f l t = l
by_part Remaining e f l t = l
by_part Body e f l t = t
by_part JobTerm e f l t = t
by_part ProofTerm e f l t = t
by_part (Other n) e f l t = t

-- the part is a term, or a goal list
abbrev pub is_term : Part → Bool
is_term p = by_part p false false false true

abbrev pub is_list : Part → Bool
is_list p = by_part p false false true false

-- a refusal
abbrev pub refusing : State → Cause → (place : ℕ) → State
refusing x c p = record { mode = Refused; part = x.part; at = x.at; end = x.end; fields = x.fields; depth = x.depth; top = x.top; goals = x.goals; first = x.first; second = x.second; from = x.from; rest = x.rest; field = x.field; why = Known c; place = p }

-- within a term
abbrev pub stepped : State → Mode → (at end fields depth top : ℕ) → State
stepped x m at end n d top = record { mode = m; part = x.part; at = at; end = end; fields = n; depth = d; top = top; goals = x.goals; first = x.first; second = x.second; from = x.from; rest = x.rest; field = x.field; why = x.why; place = x.place }

-- a part of a file at a place
abbrev pub asking : State → Mode → Part → (at end : ℕ) → State
asking x m part at end = record { mode = m; part = part; at = at; end = end; fields = x.fields; depth = x.depth; top = at; goals = x.goals; first = x.first; second = x.second; from = x.from; rest = x.rest; field = x.field; why = x.why; place = x.place }

-- with other counts, behind what comes first
abbrev pub counted : State → (goals first second from rest field : ℕ) → State
counted x g a b f r d = record { mode = x.mode; part = x.part; at = x.at; end = x.end; fields = x.fields; depth = x.depth; top = x.top; goals = g; first = a; second = b; from = f; rest = r; field = d; why = x.why; place = x.place }

-- the lowest and the highest kind that may stand where a state is
unfoldable pub low_of : State → ℕ
low_of x = by_part x.part entry_kind (lowest x.second) goal_list_kind hiproof_kind

-- the highest in a term: no field of a tactic stands in a hiproof
abbrev pub high_in_term : Part → ℕ
high_in_term Roots = tactic_kind
high_in_term Entries = tactic_kind
high_in_term Fields = tactic_kind
high_in_term JobGoals = tactic_kind
high_in_term ProofGoals = tactic_kind
high_in_term Remaining = tactic_kind
high_in_term Body = tactic_kind
high_in_term JobTerm = tactic_kind
high_in_term ProofTerm = hiproof_kind
high_in_term (Other n) = tactic_kind

unfoldable pub high_of : Part → ℕ
high_of part = by_part part entry_kind definition_kind goal_list_kind (high_in_term part)

-- no more fields of the kind that begins there may come
unfoldable pub full_of : List ℕ → State → Bool
full_of s x = by_part x.part (full_flat s x.at x.first x.second) (full_table s x.at x.first x.second) false (leb most_term_fields x.fields)

-- the next field of a part that has any number of fields is read at a place, or the file ends there
unfoldable pub next_of : List ℕ → State → Part → (at : ℕ) → State
next_of s x part at = cond (leb (length s) at) (asking x Gave part at (length s)) (asking x Reads part at (length s))

-- of a table, and of a flat file
abbrev pub next_field : List ℕ → State → (at : ℕ) → State
next_field s x at = next_of s x Fields at

abbrev pub next_entry : List ℕ → State → (at : ℕ) → State
next_entry s x at = next_of s x Entries at

-- behind a rule, or in the body of a definition
unfoldable pub table_field : List ℕ → State → (tag close : ℕ) → State
table_field s x tag close =
    cond (eqb tag 1) (next_field s (counted x x.goals (x.first + 1) x.second close x.rest x.field) close)
    (asking (counted x x.goals x.first x.second x.from x.rest x.at) Reads Body (x.at + 5) close)

-- behind a use or an open
unfoldable pub entry_taken : List ℕ → State → (tag close : ℕ) → State
entry_taken s x tag close =
    cond (eqb tag 32) (next_entry s (counted x x.goals (x.first + 1) x.second x.from x.rest x.field) close)
    (next_entry s (counted x x.goals x.first (x.second + 1) x.from x.rest x.field) close)

-- the list of those remaining ends a proof file: nothing may be left behind it
unfoldable pub remaining_taken : State → (count close : ℕ) → State
remaining_taken x n close =
    cond (eqb close x.end) (asking (counted x x.goals x.first n x.from x.rest x.field) Gave x.part close x.end)
    (refusing x LengthWrong close)

-- behind a goal list of a part: the end of a proof file, the entries of a flat file, the term of a job or of a proof
unfoldable pub behind_list : List ℕ → State → (count close : ℕ) → Part → State
behind_list s x n close Remaining = remaining_taken x n close
behind_list s x n close Roots = next_entry s (counted x n x.first x.second close x.rest x.field) close
behind_list s x n close JobGoals = asking (counted x n x.first x.second close x.rest x.field) Reads JobTerm close x.end
behind_list s x n close ProofGoals = asking (counted x n x.first x.second close x.rest x.field) Reads ProofTerm close x.end
behind_list s x n close Entries = asking (counted x n x.first x.second close x.rest x.field) Reads ProofTerm close x.end
behind_list s x n close Fields = asking (counted x n x.first x.second close x.rest x.field) Reads ProofTerm close x.end
behind_list s x n close Body = asking (counted x n x.first x.second close x.rest x.field) Reads ProofTerm close x.end
behind_list s x n close JobTerm = asking (counted x n x.first x.second close x.rest x.field) Reads ProofTerm close x.end
behind_list s x n close ProofTerm = asking (counted x n x.first x.second close x.rest x.field) Reads ProofTerm close x.end
behind_list s x n close (Other k) = asking (counted x n x.first x.second close x.rest x.field) Reads ProofTerm close x.end

unfoldable pub list_taken : List ℕ → State → (count close : ℕ) → State
list_taken s x n close = cond (ltb most_goals n) (refusing x LimitPassed x.at) (behind_list s x n close x.part)

-- from the header of a field outside terms to what is read next
unfoldable pub taken : List ℕ → State → std.Result read.Header Refusal → State
taken s x (Err r) = refusing x r.cause r.place
taken s x (Ok h) =
    by_part x.part (entry_taken s x h.tag (x.at + 3 + h.len)) (table_field s x h.tag (x.at + 3 + h.len)) (list_taken s x (h.len / 2) (x.at + 3 + h.len))
    (list_taken s x (h.len / 2) (x.at + 3 + h.len))

-- the end of the field at a place
unfoldable pub end_of : List ℕ → (at : ℕ) → ℕ
end_of s at = at + 3 + word s (at + 1)

-- behind the body of a definition, and behind the term of a job, nothing may be left in what encloses it
unfoldable pub behind_body : List ℕ → State → State
behind_body s x = cond (eqb x.at (end_of s x.field)) (next_field s (counted x x.goals x.first (x.second + 1) x.from x.rest x.field) x.at) (refusing x LengthWrong x.field)

unfoldable pub behind_job : List ℕ → State → State
behind_job s x = cond (eqb x.at (length s)) x (refusing x LengthWrong x.at)

-- behind a hiproof come those remaining
abbrev pub behind_hiproof : List ℕ → State → State
behind_hiproof s x = asking (counted x x.goals x.first x.second x.from x.at x.field) Reads Remaining x.at (length s)

-- behind a term that no field encloses, by its part: the next definition, those remaining, or the end of the file
unfoldable pub behind_part : List ℕ → State → Part → State
behind_part s x Body = behind_body s x
behind_part s x JobTerm = behind_job s x
behind_part s x ProofTerm = behind_hiproof s x
behind_part s x Roots = behind_hiproof s x
behind_part s x Entries = behind_hiproof s x
behind_part s x Fields = behind_hiproof s x
behind_part s x JobGoals = behind_hiproof s x
behind_part s x ProofGoals = behind_hiproof s x
behind_part s x Remaining = behind_hiproof s x
behind_part s x (Other n) = behind_hiproof s x

unfoldable pub behind_term : List ℕ → State → State
behind_term s x = behind_part s x x.part

-- nothing of a file is read
unfoldable pub blank_state : Part → State
blank_state part = record { mode = Refused; part = part; at = 0; end = 0; fields = 0; depth = 0; top = 0; goals = 0; first = 0; second = 0; from = 0; rest = 0; field = 0; why = Number 0; place = 0 }

-- a file that begins with a goal list, unless it is too long
unfoldable pub begun_file : List ℕ → Part → State
begun_file s part =
    let x = asking (blank_state part) Reads part 0 (length s) in
    cond (ltb most_bytes (length s)) (refusing x InputTooLong 0) x

-- a table
unfoldable pub begun_table : List ℕ → State
begun_table s = next_field s (blank_state Fields) 0

-- what a state says of its refusal: a number says nothing of a cause
abbrev pub cause_of : Why → Cause
cause_of (Known c) = c
cause_of (Number n) = InputTooLong

abbrev pub refusal_of : State → Refusal
refusal_of x = record { cause = cause_of x.why; place = x.place }

-- what is found in a state in which nothing is left to read: the refusal, or what is kept of the state
abbrev pub told_state : {P : Type 0} → (kept : State → P) → State → std.Result P Refusal
told_state kept x = by_mode x.mode (Err (refusal_of x)) (Ok (kept x)) (Ok (kept x))

-- the same where what is kept is known by a relation
abbrev pub Told : {P : Type 0} → (kept : State → P → Type 0) → State → std.Result P Refusal → Type 0
Told kept x (Err r) = (x.mode ≡ Refused) × (r ≡ refusal_of x)
Told kept x (Ok p) = (x.mode ≡ Refused → ⊥) × kept x p
