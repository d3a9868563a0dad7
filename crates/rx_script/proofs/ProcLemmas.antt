-- Arguments and values of an interface's procedures.
use Rattle.std.proofs.Common.{◌≡◌, ◌↔◌, ℕ, ◌≤◌, true, false, ◌&&◌, List, [], ◌∷◌, length, Some, subst, inl, inr}
use Rattle.std.proofs.lemmas.Bool.{and_parts, leb-true, le-leb, cases_Bool, false_from_ne_true}
use Rattle.std.specs.Str.{bytes_eq}
use Rattle.std.specs.Prelude.{nat_le}
use Rattle.xdr_value.specs.Data.{Part, Param, Procedure, Types, Data, end, more}
use Rattle.xdr_value.specs.Fits.{PartsFit, Fits, depths}
use Rattle.xdr_value.specs.Fitting.{parts_fit, does_fit}
use Rattle.xdr_value.specs.Tests.{is_known, params_known}
use Rattle.xdr_value.proofs.FitsLaw.{fits_is}
use Rattle.xdr_value.proofs.Tells.{always, never, both}
use Rattle.xdr_value.specs.declared.levels.TheConstants.{MAX_LEVELS}
use Rattle.stub_table.specs.declared.codes.TheConstants.{MAX_STREAM_BYTES}
use Rattle.stub_table.specs.declared.stream.Stream.TheVariants as streams
use Rattle.stub_table.specs.Streams.{parts_with, request_spelling, stream_spelling}
use Rattle.stub_table.specs.Answers.{CanRequest, CanReply}
use Rattle.rx_script.specs.Procs.{is_request, param_named}
use Rattle.rx_script.specs.Served.{is_reply}

-- ---- known types

-- an argument that is found among known ones is known
pub named_known : (t : Types) (name : List ℕ) (ps : List Param) (p : Param) → params_known t ps ≡ true
    → param_named name ps ≡ Some p → is_known t p.kind ≡ true
named_known t name [] p known found = absurd cc
named_known t name (q ∷ ps) p known found =
    let parts = and_parts (is_known t q.kind) (params_known t ps) known in
    elim (cases_Bool (bytes_eq q.name name)) [
      | inl same ↦
          let here : Some q ≡ Some p = rw same at found in
          let is : q ≡ p = cc in
          subst (λ (r : Param). is_known t r.kind ≡ true) is parts.0
      | inr other ↦
          let there : param_named name ps ≡ Some p = rw other at found in
          named_known t name ps p parts.1 there
    ]

-- ---- requests

parts_are : (t : Types) (ps : List Part) (vs : Data) → (parts_fit t ps vs ≡ true) ↔ PartsFit t ps vs
parts_are t [] end = always
parts_are t [] (more v vs) = never
parts_are t (p ∷ ps) end = never
parts_are t (p ∷ ps) (more v vs) = both (does_fit t p.kind v) (parts_fit t ps vs) (Fits t p.kind v)
    (PartsFit t ps vs) (fits_is t p.kind v) (parts_are t ps vs)

at_most : (m n : ℕ) → (nat_le m n ≡ true) ↔ (m ≤ n)
at_most m n = (leb-true m n, le-leb m n)

-- the test of values of a stream says yes exactly where they are
pub fitting_is : (t : Types) (ps : List Part) (vs : Data) (m n : ℕ)
    → ((parts_fit t ps vs && (nat_le (depths vs) m && nat_le n MAX_STREAM_BYTES)) ≡ true)
    ↔ (PartsFit t ps vs × ((depths vs ≤ m) × (n ≤ MAX_STREAM_BYTES)))
fitting_is t ps vs m n =
    both (parts_fit t ps vs) (nat_le (depths vs) m && nat_le n MAX_STREAM_BYTES) (PartsFit t ps vs)
    ((depths vs ≤ m) × (n ≤ MAX_STREAM_BYTES)) (parts_are t ps vs)
    (both (nat_le (depths vs) m) (nat_le n MAX_STREAM_BYTES) (depths vs ≤ m) (n ≤ MAX_STREAM_BYTES)
    (at_most (depths vs) m) (at_most n MAX_STREAM_BYTES))

pub can_request : (t : Types) (p : Procedure) (vs : Data) → CanRequest t p vs → is_request t p vs ≡ true
can_request t p vs can =
    (fitting_is t (parts_with streams.Request p.params) vs MAX_LEVELS (length (request_spelling t p vs))).1
    (can.0.0, (can.0.1, can.1))

pub cannot_request : (t : Types) (p : Procedure) (vs : Data) → (CanRequest t p vs → ⊥) → is_request t p vs ≡ false
cannot_request t p vs cannot =
    false_from_ne_true (is_request t p vs) (λ yes.
    let is = (fitting_is t (parts_with streams.Request p.params) vs MAX_LEVELS
    (length (request_spelling t p vs))).0 yes in cannot ((is.0, is.1.0), is.1.1))

-- ---- replies

pub can_reply : (t : Types) (p : Procedure) (vs : Data) → CanReply t p vs → is_reply t p vs ≡ true
can_reply t p vs can =
    (fitting_is t (parts_with streams.Reply p.params) vs MAX_LEVELS (length (stream_spelling t streams.Reply p vs))).1
    (can.0.0, (can.0.1, can.1))

pub cannot_reply : (t : Types) (p : Procedure) (vs : Data) → (CanReply t p vs → ⊥) → is_reply t p vs ≡ false
cannot_reply t p vs cannot =
    false_from_ne_true (is_reply t p vs) (λ yes.
    let is = (fitting_is t (parts_with streams.Reply p.params) vs MAX_LEVELS
    (length (stream_spelling t streams.Reply p vs))).0 yes in cannot ((is.0, is.1.0), is.1.1))
