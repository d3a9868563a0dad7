-- What a client reads of its call by what it finds of it.
use Rattle.std.proofs.Common.{◌≡◌, ◌++◌, ℕ, if◌then◌else◌, Bool, true, false, List, [], ◌∷◌}
use Rattle.std.proofs.Common.{Option, Some, None, refl, ◌∙◌, ap, sym, subst}
use Rattle.rx_model.specs.declared.answers.Asked.{Asked}
use Rattle.rx_model.specs.declared.answers.Asked.TheVariants as askeds
use Rattle.rx_model.specs.declared.answers.CallRead.{CallRead}
use Rattle.rx_model.specs.declared.answers.End.{End}
use Rattle.rx_model.specs.declared.answers.End.TheVariants as ends
use Rattle.rx_model.specs.declared.answers.ReadAns.TheVariants as answers
use Rattle.rx_model.specs.declared.names.CallName.{CallName}
use Rattle.rx_model.specs.Names.{channel_of}
use Rattle.rx_rules.specs.After.{acknowledged, owing_ackall, read_done}
use Rattle.rx_rules.specs.CallLooks.{CallLooks, after_read}
use Rattle.rx_rules.specs.Life.{Life, after_end, is_calling}
use Rattle.rx_rules.specs.Life as lives
use Rattle.rx_rules.specs.Looks.{CallRecord, Looks, call_at, is_call, on_channel, on_life, on_looks}
use Rattle.rx_rules.specs.Owing.{Owed, owed_for_read}
use Rattle.rx_rules.specs.Received.{Received, used_of}
use Rattle.rx_rules.specs.Received as packets
use Rattle.rx_rules.specs.Rules.{asked_of, client_read, client_read_by, client_read_got, end_answer}
use Rattle.rx_history.proofs.Differ.{Differ, by_name}
use Rattle.rx_node.proofs.CallChanges.{same_call}
use Rattle.rx_node.proofs.ChannelChanges.{channel_same}
use Rattle.rx_client.specs.Calling.{HasEnded}
use Rattle.rx_node.proofs.IdleEvents.{nothing-behind, owed-same}

-- ---- a call that ended

asked-end : (life : Life) (end : End) → askeds.Ended end ≡ asked_of life → life ≡ lives.Ended end
asked-end (lives.Ended other) end is = ap lives.Ended (let same : other ≡ end = cc (is) in same)
asked-end lives.Calling end is = absurd (cc (is))
asked-end lives.Waiting end is = absurd (cc (is))
asked-end lives.Accepted end is = absurd (cc (is))
asked-end lives.Finished end is = absurd (cc (is))
asked-end (lives.Broken code) end is = absurd (cc (is))
asked-end (lives.Over code) end is = absurd (cc (is))

-- the call with that end
pub record EndedAs (o : Option CallRecord) (end : End) : Type 0 where
  pub call : CallRecord
  pub there : o ≡ Some call
  pub life : call.life ≡ lives.Ended end

pub ended_as : (o : Option CallRecord) (end : End) → askeds.Ended end ≡ end_answer o → EndedAs o end
ended_as None end is = absurd (cc (is))
ended_as (Some k) end is = record { call = k; there = refl; life = asked-end k.life end is }

-- where it ended well
pub read_ok : (o : Option CallRecord) (max : ℕ) → askeds.Ended ends.Ok ≡ end_answer o
    → (answers.End, []) ≡ client_read o max
read_ok o max is =
    let e = ended_as o ends.Ok is in
    sym (ap (λ (p : Option CallRecord). client_read p max) e.there
    ∙ ap (λ (x : Life). client_read_by x (packets.read_of e.call.looks.received max)) e.life)

-- where it ended otherwise
pub read_gone : (o : Option CallRecord) (end : End) (max : ℕ) → (end ≡ ends.Ok → ⊥) → askeds.Ended end ≡ end_answer o
    → (answers.Gone end, []) ≡ client_read o max
read_gone o end max other is =
    let e = ended_as o end is in
    sym (ap (λ (p : Option CallRecord). client_read p max) e.there
    ∙ ap (λ (x : Life). client_read_by x (packets.read_of e.call.looks.received max)) e.life
    ∙ of end other (packets.read_of e.call.looks.received max))
  where
    of : (end : End) → (end ≡ ends.Ok → ⊥) → (got : CallRead × List ℕ)
        → client_read_by (lives.Ended end) got ≡ (answers.Gone end, [])
    of ends.Ok other got = absurd (other refl)
    of (ends.Abort code) other got = refl
    of (ends.Dead silence) other got = refl
    of (ends.Cancelled code) other got = refl

-- where there is none
pub read_unknown : (o : Option CallRecord) (asked : Asked) (max : ℕ) → HasEnded o
    → ((end : End) → asked ≡ askeds.Ended end → ⊥) → asked ≡ end_answer o
    → (answers.Unknown, []) ≡ client_read o max
read_unknown None asked max ended other is = refl
read_unknown (Some k) asked max ended other is = absurd (other ended.0 (is ∙ ap asked_of ended.1))

-- ---- a call that lives

pub read_calling : (k : CallRecord) (max : ℕ) (got : CallRead) (bytes : List ℕ) → k.life ≡ lives.Calling
    → (got, bytes) ≡ packets.read_of k.looks.received max → (client_read_got got, bytes) ≡ client_read (Some k) max
read_calling k max got bytes life is =
    ap (λ (p : CallRead × List ℕ). client_read_by lives.Calling p) is
    ∙ ap (λ (x : Life). client_read_by x (packets.read_of k.looks.received max)) (sym life)

-- ---- a read of one that ended well changes nothing

received-same : (r : Received) → r.ended ≡ true → packets.after_read true [] r ≡ r
received-same r ended = λ i. record r { read = nothing-behind r.read i; ended = sym ended i }

looks-same : (now : ℕ) (k : CallLooks) → k.received.ended ≡ true → after_read now true [] k ≡ k
looks-same now k ended =
    (λ i. record k {
      received = received-same k.received ended i;
      owed_ack =
          owed_for_read now k.cwnd.prompt (used_of k.received)
          (used_of (received-same k.received ended i)) k.owed_ack;
    })
    ∙ ap (λ (o : Option Owed). record k { owed_ack = o }) (owed-same now
    k.cwnd.prompt (used_of k.received) k.owed_ack)

pub read_again : (l : Looks) (c : CallName) (k : CallRecord) → Differ by_name l.calls → call_at l c ≡ Some k
    → k.life ≡ lives.Ended ends.Ok → k.looks.received.ended ≡ true → read_done c true [] l ≡ l
read_again l c k differ there life ended =
    ap (λ (q : Looks). on_life c (after_end true) (on_looks c (after_read l.now true []) q)) unacknowledged
    ∙ ap (on_life c (after_end true))
    (same_call c (λ j. record j { looks = after_read l.now true [] j.looks }) l differ
    (λ j is. (let one : k ≡ j = found j is in
    λ i. record j {
      looks =
          looks-same l.now j.looks (subst (λ (q : CallRecord). q.looks.received.ended ≡ true) one ended) i;
    })))
    ∙ same_call c (λ j. record j { life = after_end true j.life }) l differ
    (λ j is. (let one : k ≡ j = found j is in
    let its : j.life ≡ lives.Ended ends.Ok = subst (λ (q : CallRecord). q.life ≡ lives.Ended ends.Ok) one life in
    let stays : after_end true j.life ≡ j.life = ap (after_end true) its ∙ sym its in
    λ i. record j { life = stays i }))
  where
    found : (j : CallRecord) → call_at l c ≡ Some j → k ≡ j
    found j is = (let both = sym there ∙ is in cc (both))

    not-calling : is_call (λ j. is_calling j.life) (call_at l c) ≡ false
    not-calling = ap (is_call (λ j. is_calling j.life)) there ∙ ap is_calling life

    unacknowledged : acknowledged true c l ≡ l
    unacknowledged =
        ap (λ (b : Bool). on_channel (channel_of c) (owing_ackall b) l) not-calling
        ∙ channel_same (channel_of c) (λ q. q) l (λ q. refl)
