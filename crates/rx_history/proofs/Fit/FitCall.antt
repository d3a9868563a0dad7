-- Each number of a call fits its field: what its steps leave.
use Rattle.std.proofs.Common.{◌≡◌, ◌≤◌, ◌<◌, ◌^◌, ℕ, zero, suc, Bool, List, [], ◌∷◌, ◌++◌}
use Rattle.std.proofs.Common.{Option, Some, None, ap, sym, subst, arith}
use Rattle.std.specs.List.{find}
use Rattle.rx_model.specs.declared.pace.Pace.{Pace}
use Rattle.rx_model.specs.declared.answers.Took.{Took}
use Rattle.rx_model.specs.declared.answers.Took.TheVariants as tooks
use Rattle.rx_model.specs.declared.names.CallName.{CallName}
use Rattle.rx_model.specs.Body.{Body}
use Rattle.rx_model.specs.Body as bodies
use Rattle.rx_model.specs.Message.{IsBytes, Message}
use Rattle.rx_model.specs.Names.{same_name}
use Rattle.rx_model.specs.Spells.{FitsHeader}
use Rattle.rx_rules.specs.CallLooks.{CallLooks, NodeView, after_body, after_chunk, after_read, after_taken}
use Rattle.rx_rules.specs.CallLooks.{after_write, fresh_call, packet_of}
use Rattle.rx_rules.specs.Life.{Life}
use Rattle.rx_rules.specs.Looks.{CallRecord}
use Rattle.rx_rules.specs.Received.{front_of, has_hole, used_of}
use Rattle.rx_rules.specs.Received as packets
use Rattle.rx_history.proofs.Calls.{body-ends, found-ends}
use Rattle.rx_history.proofs.Ends.{Ends}
use Rattle.rx_history.proofs.Fit.FitValues.{FitsLife, FitsReceived, Lies, OwedFits, judged_fits, owed_fits, pinged_fits}
use Rattle.rx_history.proofs.Fit.FitValues.{read_owed_fits, reads_fit}
use Rattle.rx_history.proofs.Fit.FitValues.{received_none}

-- what came, the acknowledgement that is owed, the bytes that were said, the code of its end, and its number
pub record FitsCall (k : CallRecord) : Type 0 where
  pub received : FitsReceived k.looks.received
  pub owed : OwedFits k.looks.owed_ack
  pub said : IsBytes k.looks.sent.said
  pub life : FitsLife k.life
  pub number : 1 ≤ k.name.number

-- of one that is looked for
abbrev pub CallFits : Option CallRecord → Type 0
CallFits None = Unit {0}
CallFits (Some k) = FitsCall k

-- each call of a list, by its name
abbrev pub CallsFit : List CallRecord → Type 0
CallsFit ks = (c : CallName) → CallFits (find (λ k. same_name k.name c) ks)

-- ---- one call

-- its life goes on
pub life_fits : (k : CallRecord) (life : Life) → FitsLife life → FitsCall k → FitsCall (record k { life = life })
life_fits k life is f = record { received = f.received; owed = f.owed; said = f.said; life = is; number = f.number }

pub none-said : IsBytes []
none-said i = omega arith

-- it starts
pub fresh_fits : (c : CallName) (life : Life) (pace : Pace) (now : ℕ) → FitsLife life → 1 ≤ c.number
    → FitsCall (record { name = c; life = life; looks = fresh_call pace now })
fresh_fits c life pace now is some =
    record { received = received_none; owed = tt; said = none-said; life = is; number = some }

-- a data packet was judged
chunk-fits : (v : NodeView) (got : Took) (m : Message) (body : Body) (window : ℕ) (k : CallRecord) → FitsHeader m
    → window ≤ 255
    → (got ≡ tooks.Kept → Lies m.seq window k.looks.received) → FitsCall k
    → FitsCall (record k { looks = after_chunk v got m body k.looks })
chunk-fits v got m (bodies.Chunk payload) window k head narrow lies f =
    record {
      received = judged_fits got (packet_of m payload) window k.looks.received narrow head.seq lies f.received;
      owed =
          owed_fits got v.now k.looks.cwnd.prompt (has_hole k.looks.received) m (front_of k.looks.received.kept)
          k.looks.owed_ack head.serial f.owed;
      said = subst IsBytes (sym (ap (λ (x : Ends). x.said) (found-ends v.client k.looks))) f.said;
      life = f.life;
      number = f.number;
    }
chunk-fits v got m _ window k head narrow lies f = f

heard-owed : (now : ℕ) (m : Message) (body : Body) (k : CallLooks) → m.serial < 2 ^ 32 → OwedFits k.owed_ack
    → OwedFits (after_body now m body k).owed_ack
heard-owed now m (bodies.Ack a) k low f = pinged_fits a.reason m.serial k.owed_ack low f
heard-owed now m _ k low f = f

heard-received : (now : ℕ) (m : Message) (body : Body) (k : CallLooks) → FitsReceived k.received
    → FitsReceived (after_body now m body k).received
heard-received now m (bodies.Ack a) k f = f
heard-received now m _ k f = f

-- a message was judged
pub taken_fits : (v : NodeView) (got : Took) (m : Message) (window : ℕ) (k : CallRecord) → FitsHeader m → window ≤ 255
    → (got ≡ tooks.Kept → Lies m.seq window k.looks.received) → FitsCall k
    → FitsCall (record k { looks = after_taken v got m k.looks })
taken_fits v tooks.Kept m window k head narrow lies f = chunk-fits v tooks.Kept m m.body window k head narrow lies f
taken_fits v tooks.Repeat m window k head narrow lies f = chunk-fits v tooks.Repeat m m.body window k head narrow lies f
taken_fits v tooks.Beyond m window k head narrow lies f = chunk-fits v tooks.Beyond m m.body window k head narrow lies f
taken_fits v tooks.Clash m window k head narrow lies f = chunk-fits v tooks.Clash m m.body window k head narrow lies f
taken_fits v tooks.NoSlot m window k head narrow lies f = chunk-fits v tooks.NoSlot m m.body window k head narrow lies f
taken_fits v tooks.Heard m window k head narrow lies f =
    record {
      received = heard-received v.now m m.body k.looks f.received;
      owed = heard-owed v.now m m.body k.looks head.serial f.owed;
      said = subst IsBytes (sym (ap (λ (x : Ends). x.said) (body-ends v.now m m.body k.looks))) f.said;
      life = f.life;
      number = f.number;
    }
taken_fits v _ m window k head narrow lies f = f

both-bytes : (xs ys : List ℕ) → IsBytes xs → IsBytes ys → IsBytes (xs ++ ys)
both-bytes [] ys a b i = b i
both-bytes (x ∷ xs) ys a b zero = a zero
both-bytes (x ∷ xs) ys a b (suc i) = both-bytes xs ys (λ j. a (suc j)) b i

-- bytes were accepted
pub write_fits : (bytes : List ℕ) (k : CallRecord) → IsBytes bytes → FitsCall k
    → FitsCall (record k { looks = after_write bytes k.looks })
write_fits bytes k is f =
    record {
      received = f.received;
      owed = f.owed;
      said = both-bytes k.looks.sent.said bytes f.said
          is;
      life = f.life;
      number = f.number;
    }

-- bytes were given, or the end
pub read_fits : (now : ℕ) (end : Bool) (bytes : List ℕ) (k : CallRecord) → FitsCall k
    → FitsCall (record k { looks = after_read now end bytes k.looks })
read_fits now end bytes k f =
    record {
      received = reads_fit end bytes k.looks.received f.received;
      owed =
          read_owed_fits now k.looks.cwnd.prompt (used_of k.looks.received)
          (used_of (packets.after_read end bytes k.looks.received)) k.looks.owed_ack f.owed;
      said = f.said;
      life = f.life;
      number = f.number;
    }
