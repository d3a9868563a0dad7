-- The options of a line, its bytes and its arguments, as a line that was read has them.
use Rattle.std.proofs.Common.{◌≡◌, ◌≢◌, ◌≤◌, ◌<◌, ◌*◌, ◌-◌, ◌^◌, ◌==◌, ◌&&◌, ℕ, ℤ, pos, negsuc, Bool, true, false}
use Rattle.std.proofs.Common.{List, [], ◌∷◌, Option, Some, None, Result, Ok, Err, refl, sym, subst, ap, length}
use Rattle.std.proofs.Common.{inl, inr, arith, if◌then◌else◌, unwrap_or}
use Rattle.std.specs.Prelude.{IfOk, IfSome, nat_le, codes, is_some, bytes_eq, nat_abs}
use Rattle.std.specs.List.{list_all, slice_split}
use Rattle.std.specs.Option.{ok_or}
use Rattle.std.specs.Result.{result_ok}
use Rattle.std.proofs.lemmas.Bool.{and_parts, cases_Bool, leb-true}
use Rattle.std.proofs.lemmas.Bool.Decides.{nat_tests}
use Rattle.std.proofs.lemmas.List.{length-replicate}
use Rattle.std.proofs.lemmas.Slice.Eq.{bytes_eq-Decides}
use Rattle.std.proofs.Math.IntN.{pos-ne-negsuc}
use Rattle.hex.specs.Hex.{decode_of}
use Rattle.hex.specs.declared.error.FromHexError.{FromHexError}
use Rattle.hex.proofs.HexLemmas.{decode_of-ok}
use Rattle.xdr_value.specs.Data.{Data, Procedure, Procs, Types}
use Rattle.xdr_value.specs.declared.levels.TheConstants.{MAX_LEVELS}
use Rattle.stub_table.specs.Answers.{CanRequest}
use Rattle.stub_table.specs.Streams.{parts_with, request_spelling}
use Rattle.stub_table.specs.declared.stream.Stream.TheVariants as streams
use Rattle.rx_script.specs.declared.fault.LineWhy.{LineWhy}
use Rattle.rx_script.specs.declared.fault.LineWhy.TheVariants as whys
use Rattle.rx_script.specs.declared.limits.TheConstants.{DEFAULT_FIRST, DEFAULT_SERVICE, MAX_BYTES}
use Rattle.rx_script.specs.declared.marks.TheConstants.{STAR}
use Rattle.rx_script.specs.declared.options.OptionName.{OptionName}
use Rattle.rx_script.specs.declared.options.OptionName.TheVariants as option_names
use Rattle.rx_script.specs.declared.options.Options.{Options}
use Rattle.rx_script.specs.declared.options.TheConstants.{NO_OPTIONS}
use Rattle.rx_script.specs.Numbers.{bytes_in, bytes_of_parts, hex_bytes, is_lower_hex, key_in, number_within, repeated}
use Rattle.rx_script.specs.Options.{has_key, may_stand, number_value, once, option_in, options_from, options_word}
use Rattle.rx_script.specs.Options.{with_found}
use Rattle.rx_script.specs.Options.{with_option, with_value}
use Rattle.rx_script.specs.Procs.{args_word, if_request, is_request, or_json, proc_named, proc_word}
use Rattle.rx_script.specs.Words.{not_zero}
use Rattle.rx_script.proofs.ProcLemmas.{fitting_is}
use Rattle.xdr_json.specs.Args.{args_in}
use Rattle.rx_plan.proofs.Words.{Within, any_ok, if_and, if_either, if_left, if_or, if_taken, if_test, within_well}

-- ---- options

-- those that name a number have one in range
pub record InRange (given : Options) : Type 0 where
  pub service : IfSome given.service (λ n. n ≤ 2 ^ 16 - 1)
  pub nonce : IfSome given.nonce (λ n. n ≤ 2 ^ 64 - 1)
  pub first : IfSome given.first (λ n. 1 ≤ n)

once_well : {A : Type 0} (given value : Option A) (P : A → Type 0) → IfSome value P → IfOk (once given value) P
once_well given value P holds =
    if_and (ok_or value whys.Number) (λ a. if is_some given then Err whys.Twice else Ok a) P P
    (if_or value whys.Number P holds) (λ a there. if_either (is_some given) (Err whys.Twice) (Ok a) P tt there)

value_well : (name : OptionName) (given : Options) (text : List ℕ) → InRange given
    → IfOk (with_value name given text) InRange
value_well option_names.Service given text all =
    if_and (number_value 0 (2 ^ 16 - 1) given.service text) (λ n. Ok (record given { service = Some n }))
    (Within 0 (2 ^ 16 - 1)) InRange
    (once_well given.service (number_within 0 (2 ^ 16 - 1) text) (Within 0 (2 ^ 16 - 1)) (within_well 0
    (2 ^ 16 - 1) text))
    (λ n there. record { service = there.1; nonce = all.nonce; first = all.first })
value_well option_names.Nonce given text all =
    if_and (number_value 0 (2 ^ 64 - 1) given.nonce text) (λ n. Ok (record given { nonce = Some n }))
    (Within 0 (2 ^ 64 - 1)) InRange
    (once_well given.nonce (number_within 0 (2 ^ 64 - 1) text) (Within 0 (2 ^ 64 - 1)) (within_well 0
    (2 ^ 64 - 1) text))
    (λ n there. record { service = all.service; nonce = there.1; first = all.first })
value_well option_names.First given text all =
    if_and (number_value 1 (2 ^ 32 - 1) given.first text) (λ n. Ok (record given { first = Some n }))
    (Within 1 (2 ^ 32 - 1)) InRange
    (once_well given.first (number_within 1 (2 ^ 32 - 1) text) (Within 1 (2 ^ 32 - 1)) (within_well 1
    (2 ^ 32 - 1) text))
    (λ n there. record { service = all.service; nonce = all.nonce; first = there.0 })
value_well option_names.Conns given text all =
    if_and (number_value 0 (2 ^ 32 - 1) given.conns text) (λ n. Ok (record given { conns = Some n }))
    (λ n. Unit {0}) InRange
    (any_ok (number_value 0 (2 ^ 32 - 1) given.conns text))
    (λ n any. record { service = all.service; nonce = all.nonce; first = all.first })
value_well option_names.Calls given text all =
    if_and (number_value 0 (2 ^ 32 - 1) given.calls text) (λ n. Ok (record given { calls = Some n }))
    (λ n. Unit {0}) InRange
    (any_ok (number_value 0 (2 ^ 32 - 1) given.calls text))
    (λ n any. record { service = all.service; nonce = all.nonce; first = all.first })
value_well option_names.Slots given text all =
    if_and (number_value 0 (2 ^ 32 - 1) given.slots text) (λ n. Ok (record given { slots = Some n }))
    (λ n. Unit {0}) InRange
    (any_ok (number_value 0 (2 ^ 32 - 1) given.slots text))
    (λ n any. record { service = all.service; nonce = all.nonce; first = all.first })
value_well option_names.Window given text all =
    if_and (number_value 0 (2 ^ 32 - 1) given.window text) (λ n. Ok (record given { window = Some n }))
    (λ n. Unit {0}) InRange
    (any_ok (number_value 0 (2 ^ 32 - 1) given.window text))
    (λ n any. record { service = all.service; nonce = all.nonce; first = all.first })
value_well option_names.Key given text all =
    if_and (once given.key (key_in text)) (λ key. Ok (record given { key = Some key })) (λ key. Unit {0}) InRange
    (any_ok (once given.key (key_in text)))
    (λ key any. record { service = all.service; nonce = all.nonce; first = all.first })

found_well : (keyed : Bool) (given : Options) (found : Option (OptionName × List ℕ)) → InRange given
    → IfOk (with_found keyed given found) InRange
found_well keyed given None all = tt
found_well keyed given (Some found) all =
    if_either (may_stand keyed found.0) (with_value found.0 given found.1) (Err whys.Word) InRange
    (value_well found.0 given found.1 all) tt

from_well : (row : List OptionName) (keyed : Bool) (words : List (List ℕ)) (given : Options) → InRange given
    → IfOk (options_from row keyed given words) InRange
from_well row keyed [] given all = all
from_well row keyed (w ∷ ws) given all =
    if_and (with_option row keyed given w) (λ next. options_from row keyed next ws) InRange InRange
    (found_well keyed given (option_in row w) all) (λ next there. from_well row keyed ws next there)

pub options_well : (row : List OptionName) (words : List (List ℕ)) → IfOk (options_word row words) InRange
options_well row words =
    from_well row (has_key words) words NO_OPTIONS (record { service = tt; nonce = tt; first = tt })

pub service_well : (o : Option ℕ) → IfSome o (λ n. n ≤ 2 ^ 16 - 1) → unwrap_or o DEFAULT_SERVICE < 2 ^ 16
service_well None all = omega arith
service_well (Some n) all = omega (arith, all)

pub nonce_well : (o : Option ℕ) → IfSome o (λ n. n ≤ 2 ^ 64 - 1) → unwrap_or o 0 < 2 ^ 64
nonce_well None all = omega arith
nonce_well (Some n) all = omega (arith, all)

pub first_well : (o : Option ℕ) → IfSome o (λ n. 1 ≤ n) → 1 ≤ unwrap_or o DEFAULT_FIRST
first_well None all = omega arith
first_well (Some n) all = all

-- ---- codes

-- a code that may not be 0
pub fault_well : (o : Option ℤ) → IfSome (not_zero o) (λ code. code ≢ pos 0)
fault_well None = tt
fault_well (Some (pos n)) =
    if_left (n == 0) (Some (pos n)) (λ code. code ≢ pos 0) (λ other same.
    let none : n ≡ 0 = ap nat_abs same in grind (arith, nat_tests))
fault_well (Some (negsuc n)) = λ same. absurd (pos-ne-negsuc 0 n (sym same))

-- ---- bytes

-- there aren't too many
abbrev pub FewBytes : List ℕ → Type 0
FewBytes bytes = length bytes ≤ MAX_BYTES

read_few : (r : Result (List ℕ) FromHexError) → ((bytes : List ℕ) → r ≡ Ok bytes → FewBytes bytes)
    → IfSome (result_ok r) FewBytes
read_few (Ok bytes) few = few bytes refl
read_few (Err fault) few = tt

hex_few : (w : List ℕ) → IfSome (hex_bytes w) FewBytes
hex_few w =
    if_taken (list_all is_lower_hex w && nat_le (length w) (2 * MAX_BYTES)) (result_ok (decode_of w)) FewBytes (λ yes.
    let within = leb-true (length w) (2 * MAX_BYTES)
    (and_parts (list_all is_lower_hex w) (nat_le (length w) (2 * MAX_BYTES)) yes).1 in
    read_few (decode_of w) (λ bytes read.
    let twice = (decode_of-ok w bytes read).2 in omega (arith, within, twice)))

repeated_few : (o : Option ℕ) (p : Option (List ℕ)) → IfSome o (Within 0 MAX_BYTES) → IfSome (repeated o p) FewBytes
repeated_few None None within = tt
repeated_few None (Some []) within = tt
repeated_few None (Some (b ∷ [])) within = tt
repeated_few None (Some (b ∷ c ∷ bs)) within = tt
repeated_few (Some n) None within = tt
repeated_few (Some n) (Some []) within = tt
repeated_few (Some n) (Some (b ∷ [])) within = subst (λ k. k ≤ MAX_BYTES) (sym (length-replicate n b)) within.1
repeated_few (Some n) (Some (b ∷ c ∷ bs)) within = tt

parts_few : (parts : List (List ℕ)) → IfSome (bytes_of_parts parts) FewBytes
parts_few [] = tt
parts_few (hex ∷ []) = if_left (length hex == 0) (hex_bytes hex) FewBytes (λ some. hex_few hex)
parts_few (count ∷ byte ∷ []) =
    repeated_few (number_within 0 MAX_BYTES count) (hex_bytes byte) (within_well 0 MAX_BYTES count)
parts_few (count ∷ byte ∷ more ∷ parts) = tt

bytes_few_by : (test : Bool) (o : Option (List ℕ)) → IfSome o FewBytes → IfSome (if test then Some [] else o) FewBytes
bytes_few_by true o few = omega arith
bytes_few_by false o few = few

pub bytes_few : (w : List ℕ) → IfSome (bytes_in w) FewBytes
bytes_few w =
    bytes_few_by (bytes_eq w (codes "-")) (bytes_of_parts (slice_split (λ b. b == STAR) w))
    (parts_few (slice_split (λ b. b == STAR) w))

-- ---- procedures

named_so : (ps : Procs) (name : List ℕ) (p : Procedure) → proc_named name ps ≡ Some p → p.name ≡ name
named_so [] name p found = absurd cc
named_so (q ∷ ps) name p found =
    elim (cases_Bool (bytes_eq q.name name)) [
      | inl same ↦
          let here : Some q ≡ Some p = rw same at found in
          let is : q ≡ p = cc in
          subst (λ (r : Procedure). r.name ≡ name) is ((bytes_eq-Decides q.name name).0 same)
      | inr other ↦
          let there : proc_named name ps ≡ Some p = rw other at found in
          named_so ps name p there
    ]

-- it is found again by its own name
abbrev pub IsNamed : Procs → Procedure → Type 0
IsNamed ps p = proc_named p.name ps ≡ Some p

found_named : (ps : Procs) (name : List ℕ) (o : Option Procedure) → proc_named name ps ≡ o → IfSome o (IsNamed ps)
found_named ps name None found = tt
found_named ps name (Some p) found =
    subst (λ (own : List ℕ). proc_named own ps ≡ Some p) (sym (named_so ps name p found)) found

pub proc_well : (ps : Procs) (w : List ℕ) → IfOk (proc_word ps w) (IsNamed ps)
proc_well ps [] = tt
proc_well ps (b ∷ bs) =
    if_or (proc_named (b ∷ bs) ps) whys.Proc (IsNamed ps) (found_named ps (b ∷ bs) (proc_named (b ∷ bs) ps) refl)

request_well : (t : Types) (p : Procedure) (r : Result Data LineWhy) → IfOk (if_request t p r) (CanRequest t p)
request_well t p (Err why) = tt
request_well t p (Ok vs) =
    if_test (is_request t p vs) (Ok vs) whys.Json (CanRequest t p) (λ yes.
    let is = (fitting_is t (parts_with streams.Request p.params) vs MAX_LEVELS (length
    (request_spelling t p vs))).0 yes in
    ((is.0, is.1.0), is.1.1))

pub args_well : (t : Types) (p : Procedure) (w : List ℕ) → IfOk (args_word t p w) (CanRequest t p)
args_well t p [] = tt
args_well t p (b ∷ bs) = request_well t p (or_json (args_in t p.params (b ∷ bs)))
