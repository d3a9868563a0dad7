-- Going through lists, one element after the other.
use Rattle.std.proofs.Common.{◌≡◌, ◌≢◌, suc, ◌+◌, Bool, true, false, cond, ◌||◌, List, [], ◌∷◌, ◌++◌, map, refl}
use Rattle.std.proofs.Common.{sym, ap, ◌∙◌}
use Rattle.std.proofs.lemmas.Bool.{and_parts, and_right}
use Rattle.stub_table.specs.declared.stream.Stream.TheVariants as streams
use Rattle.stub_table.specs.Streams.{goes_with}
use Rattle.rx_model.specs.declared.names.Host.{Host}
use Rattle.rx_model.specs.Names.{same_host}
use Rattle.xdr_value.specs.declared.def.Arg.{Arg}
use Rattle.xdr_value.specs.Data.{Param, Datum, Data, Types, end, more}
use Rattle.xdr_value.specs.Tests.{is_known, params_known}
use Rattle.xdr_value.specs.Fits.{count}
use Rattle.xdr_value.specs.View.{param_of}
use Rattle.xdr_value.proofs.Lists.{append, append_end, append_more}
pub use Rattle.xdr_value.proofs.Lists.{in_left}
use Rattle.rx_script.specs.Answers.{values_by}
use Rattle.rx_script.specs.Hosts.{has_host}
use Rattle.rx_script.specs.Same.{same_value, same_values}

-- known types of those that are left: of the first, and of the others
pub known_rest : (t : Types) (left rest : List Arg) (a : Arg) → left ≡ a ∷ rest
    → params_known t (map param_of left) ≡ true
    → (is_known t (param_of a).kind ≡ true) × (params_known t (map param_of rest) ≡ true)
known_rest t left rest a is known =
    let all : params_known t (map param_of (a ∷ rest)) ≡ true = rw is at known in
    and_parts (is_known t (param_of a).kind) (params_known t (map param_of rest)) all

-- ---- values that go back

-- an argument that goes back takes its value
pub values_go : (value : Param → Datum) (front : Data) (left rest : List Arg) (a : Arg) (d : Datum) (total : Data)
    → left ≡ a ∷ rest → goes_with streams.Reply a.mode ≡ true → d ≡ value (param_of a)
    → append front (values_by value (map param_of left)) ≡ total
    → append (append front (more d end)) (values_by value (map param_of rest)) ≡ total
values_go value front left rest a d total is goes told so_far =
    let one : append front (values_by value (map param_of left))
    ≡ append (append front (more d end)) (values_by value (map param_of rest)) =
    rw (is, goes, told) (sym (append_more front (value (param_of a)) (values_by value (map param_of rest)))) in
    sym one ∙ so_far

-- another takes none
pub values_stay : (value : Param → Datum) (left rest : List Arg) (a : Arg)
    → left ≡ a ∷ rest → goes_with streams.Reply a.mode ≡ false
    → values_by value (map param_of left) ≡ values_by value (map param_of rest)
values_stay value left rest a is stays = rw (is, stays) refl

-- no argument is left
pub values_done : (value : Param → Datum) (front : Data) (left : List Arg) (total : Data) → left ≡ []
    → append front (values_by value (map param_of left)) ≡ total → front ≡ total
values_done value front left total none so_far =
    let all : append front (values_by value (map param_of left)) ≡ front = rw none (append_end front) in
    sym all ∙ so_far

-- ---- hosts

or_more : (a b c : Bool) → ((a || b) || c) ≡ (a || (b || c))
or_more true b c = refl
or_more false b c = refl

or_swap : (a b : Bool) → (a || b) ≡ (b || a)
or_swap true true = refl
or_swap true false = refl
or_swap false true = refl
or_swap false false = refl

-- one host more
pub has_host-push : (hosts : List Host) (h q : Host)
    → has_host (hosts ++ h ∷ []) q ≡ (same_host h q || has_host hosts q)
has_host-push [] h q = refl
has_host-push (other ∷ hosts) h q =
    ap (λ (b : Bool). same_host other q || b) (has_host-push hosts h q)
    ∙ (sym (or_more (same_host other q) (same_host h q) (has_host hosts q))
    ∙ (ap (λ (b : Bool). b || has_host hosts q) (or_swap (same_host other q) (same_host h q))
    ∙ or_more (same_host h q) (same_host other q) (has_host hosts q)))

pub cond_or : (b c : Bool) → cond b true c ≡ (b || c)
cond_or true c = refl
cond_or false c = refl

-- ---- lists of values

-- lists of two lengths aren't one
pub counts_differ : (vs ws : Data) → count vs ≢ count ws → same_values vs ws ≡ false
counts_differ end end differ = absurd (differ refl)
counts_differ end (more w ws) differ = refl
counts_differ (more v vs) end differ = refl
counts_differ (more v vs) (more w ws) differ =
    let less : count vs ≢ count ws = λ e. differ (ap suc e) in
    rw (counts_differ vs ws less) (and_right (same_value v w) false refl)
