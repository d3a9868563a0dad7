-- What a reply says is what is spelled at its front.
use Rattle.std.proofs.Common.{◌≡◌, ℕ, Bool, true, false, List, [], ◌++◌, Option, Some, None, refl, sym, ap, ◌∙◌}
use Rattle.std.proofs.Common.{append_assoc}
use Rattle.std.specs.Prelude.{option_map, option_and_then}
use Rattle.hex.specs.Hex.{IsBytes}
use Rattle.xdr_value.specs.Data.{Procedure, Data, Types}
use Rattle.stub_table.specs.declared.stream.Stream.TheVariants as streams
use Rattle.stub_table.specs.Streams.{FitStream, stream_spelling}
use Rattle.rx_script.specs.Served.{as_counted}
use Rattle.rx_reply.specs.Replies.{Returned, values_front, counted_front, says_behind, reply_says}
use Rattle.rx_reply.specs.Spelled.{CanReturn, reply_spelling}
use Rattle.rx_reply.proofs.Fronts.{front_spelled, front_spells}
use Rattle.rx_reply.proofs.Streams.{counted_again, counted_spells}

-- these values, with this download
abbrev with : List ℕ → Option Data → Option Returned
with sent o = option_map (λ (vs : Data). record { values = vs; download = sent }) o

-- a reply that is spelled says what it was spelled of
pub spelled_is_said : (t : Types) (p : Procedure) (down : Bool) (says : Returned) (rest : List ℕ)
    → CanReturn t p down says → reply_says t p down (reply_spelling t p down says ++ rest) ≡ Some says
spelled_is_said t p true says rest can =
    let body : List ℕ = stream_spelling t streams.Reply p says.values ++ rest in
    let regrouped : reply_spelling t p true says ++ rest ≡ as_counted says.download ++ body =
    append_assoc (as_counted says.download) (stream_spelling t streams.Reply p says.values) rest in
    ap (reply_says t p true) regrouped
    ∙ ap (option_and_then (says_behind t p)) (counted_again says.download body can.1)
    ∙ ap (with says.download) (front_spelled t p body rest says.values can.0 refl)
spelled_is_said t p false says rest can =
    let body : List ℕ = stream_spelling t streams.Reply p says.values ++ rest in
    ap (with []) (front_spelled t p body rest says.values can.0 refl)
    ∙ ap (λ (sent : List ℕ). Some (record { values = says.values; download = sent })) (sym can.1)

-- ---- and back

said_by : (t : Types) (p : Procedure) (sent bytes : List ℕ) (says : Returned) (o : Option Data) → IsBytes bytes
    → values_front t p bytes ≡ o → with sent o ≡ Some says
    → FitStream t streams.Reply p says.values × (sent ≡ says.download)
    × (rest : List ℕ) × (bytes ≡ stream_spelling t streams.Reply p says.values ++ rest)
said_by t p sent bytes says None held is e = absurd cc
said_by t p sent bytes says (Some vs) held is e =
    let made : Returned = record { values = vs; download = sent } in
    let same : made ≡ says = cc in
    let spelled = front_spells t p bytes vs held is in
    let values : vs ≡ says.values = ap (λ (r : Returned). r.values) same in
    let download : sent ≡ says.download = ap (λ (r : Returned). r.download) same in
    rw (← values, ← download) (spelled.0, refl, spelled.1, spelled.2)

-- what says anything, by its front
pub record IsSpelled (t : Types) (p : Procedure) (down : Bool) (reply : List ℕ) (says : Returned) : Type 0 where
  pub can : CanReturn t p down says
  pub rest : List ℕ
  pub is : reply ≡ reply_spelling t p down says ++ rest

with_down : (t : Types) (p : Procedure) (reply : List ℕ) (says : Returned) (o : Option (List ℕ × List ℕ))
    → IsBytes reply → counted_front reply ≡ o → option_and_then (says_behind t p) o ≡ Some says
    → IsSpelled t p true reply says
with_down t p reply says None held is e = absurd cc
with_down t p reply says (Some x) held is e =
    let front = counted_spells reply x held is in
    let behind = said_by t p x.0 x.1 says (values_front t p x.1) front.held refl e in
    let spelled : reply ≡ as_counted says.download
    ++ (stream_spelling t streams.Reply p says.values ++ behind.2) =
    front.spelled ∙ ap (λ (sent : List ℕ). as_counted sent ++ x.1) behind.1
    ∙ ap (λ (b : List ℕ). as_counted says.download ++ b) behind.3 in
    record {
      can = (behind.0, rw behind.1 at front.within);
      rest = behind.2;
      is = spelled ∙ sym (append_assoc (as_counted says.download) (stream_spelling t streams.Reply p says.values)
          behind.2);
    }

spelled_front : (t : Types) (p : Procedure) (down : Bool) (reply : List ℕ) (says : Returned) → IsBytes reply
    → reply_says t p down reply ≡ Some says → IsSpelled t p down reply says
spelled_front t p true reply says held e = with_down t p reply says (counted_front reply) held refl e
spelled_front t p false reply says held e =
    let behind = said_by t p [] reply says (values_front t p reply) held refl e in
    record { can = (behind.0, sym behind.1); rest = behind.2; is = behind.3 }

-- what a reply says can come back, and is spelled at its front
pub said_is_spelled : (t : Types) (p : Procedure) (down : Bool) (reply : List ℕ) (says : Returned) → IsBytes reply
    → reply_says t p down reply ≡ Some says
    → CanReturn t p down says × (rest : List ℕ) × (reply ≡ reply_spelling t p down says ++ rest)
said_is_spelled t p down reply says held e =
    let h = spelled_front t p down reply says held e in (h.can, h.rest, h.is)
