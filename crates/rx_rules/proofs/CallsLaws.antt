-- Changes of calls, seen at one name: a change of all records is one of each, and the slots that they hold are summed
-- anew.
use Rattle.std.proofs.Common.{◌≡◌, cond, Bool, true, false, List, [], ◌∷◌, map, Option, Some, option_map}
use Rattle.std.proofs.Common.{refl, ◌∙◌, ap, if◌then◌else◌}
use Rattle.std.specs.List.{find}
use Rattle.rx_model.specs.declared.names.CallName.{CallName}
use Rattle.rx_rules.specs.Looks.{CallRecord, Looks, call_at, on_call, on_calls}
use Rattle.rx_model.specs.Names.{same_name}

-- a change that leaves each record its name
abbrev pub KeepsNames : (CallRecord → CallRecord) → Type 0
KeepsNames change = (k : CallRecord) → (change k).name ≡ k.name

option_map-cond : (change : CallRecord → CallRecord) (test : Bool) (k : CallRecord) (rest : Option CallRecord)
    → cond test (Some (change k)) (option_map change rest) ≡ option_map change (cond test (Some k) rest)
option_map-cond change true k rest = refl
option_map-cond change false k rest = refl

find-map : (c : CallName) (change : CallRecord → CallRecord) → KeepsNames change → (ks : List CallRecord)
    → find (λ k. same_name k.name c) (map change ks) ≡ option_map change (find (λ k. same_name k.name c) ks)
find-map c change keeps [] = refl
find-map c change keeps (k ∷ ks) =
    ap (λ n. cond (same_name n c) (Some (change k)) (find (λ j. same_name j.name c) (map change ks))) (keeps k)
    ∙ rw (find-map c change keeps ks)
    (option_map-cond change (same_name k.name c) k (find (λ j. same_name j.name c) ks))

-- the record of a call behind a change of all of them
pub call_at-on_calls : (c : CallName) (change : CallRecord → CallRecord) (l : Looks) → KeepsNames change
    → call_at (on_calls change l) c ≡ option_map change (call_at l c)
call_at-on_calls c change l keeps = find-map c change keeps l.calls

-- ---- one call changes

-- a change of one call, as it shows at any name
abbrev pub changed_if : CallName → (CallRecord → CallRecord) → CallRecord → CallRecord
changed_if d change k = if same_name k.name d then change k else k

-- as a name it stays
pub changed_if-name : (test : Bool) (change : CallRecord → CallRecord) (k : CallRecord) → (change k).name ≡ k.name
    → (cond test (change k) k).name ≡ k.name
changed_if-name true change k keeps = keeps
changed_if-name false change k keeps = refl

-- the record of any call behind a change of one
pub call_at-on_call : (c d : CallName) (change : CallRecord → CallRecord) (l : Looks) → KeepsNames change
    → call_at (on_call d change l) c ≡ option_map (changed_if d change) (call_at l c)
call_at-on_call c d change l keeps =
    call_at-on_calls c (changed_if d change) l (λ k. changed_if-name (same_name k.name d) change k (keeps k))
