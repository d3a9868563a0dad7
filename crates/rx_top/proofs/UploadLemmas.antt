-- Lemmas on what is sent with an upload.
use Rattle.std.proofs.Common.{◌≡◌, ◌+◌, ◌++◌, ◌∙◌, ℕ, List, Option, IfOk, Result, Ok, Err, Vec, Global, vec_len}
use Rattle.std.proofs.Common.{length, take, drop, arith, ap, sym, subst}
use Rattle.std.proofs.lemmas.List.{length-append, take_at, take-take}
use Rattle.rx_base.specs.Files.{HasFile}
use Rattle.rx_top.specs.Calls.{HasUpload}
use Rattle.rx_top.specs.declared.wire_outcome.WireOutcome.{WireOutcome}
use Rattle.rx_top.specs.Inputs.{Gives}

module _ (contents : Option (List (List ℕ × List ℕ))) (name room bytes : List ℕ) (request front : Vec ℕ Global) (at : ℕ)
  where
    -- what was read behind a request and four bytes, and had its count set there, is the request with an upload that is
    -- the file
    pub sent_upload : (result : Result (Vec ℕ Global) WireOutcome) → at ≡ vec_len request → length room ≡ 4
        → front.items ≡ request.items ++ room → take (length front.items) bytes ≡ front.items
        → HasFile contents name (drop (vec_len front) bytes)
        → IfOk result (λ sent. HasUpload (take at bytes) (drop (at + 4) bytes) sent.items)
        → IfOk result (λ sent. Gives contents name (λ upload. HasUpload request.items upload sent.items))
    sent_upload (Err outcome) is four grown starts has sent = sent
    sent_upload (Ok it) is four grown starts has sent =
        let long : length front.items ≡ at + 4 =
        ap length grown ∙ length-append request.items room ∙ omega (arith, is, four, request.ok.0) in
        let end : vec_len front ≡ at + 4 = omega (arith, long, front.ok.0) in
        let same : take at bytes ≡ request.items =
        sym (take-take at (at + 4) bytes (omega arith)) ∙ ap (λ n. take at (take n bytes)) (sym long)
        ∙ ap (take at) starts
        ∙ ap (take at) grown ∙ take_at request.items room at (omega (arith, is, request.ok.0)) in (
          drop (at + 4) bytes,
          subst (λ n. HasFile contents name (drop n bytes)) end has,
          subst (λ request. HasUpload request (drop (at + 4) bytes) it.items) same sent,
        )
