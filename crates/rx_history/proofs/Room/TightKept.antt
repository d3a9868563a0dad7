-- A packet is kept: it takes at most what is left, and its call keeps what it needs.
use Rattle.std.proofs.Common.{◌≡◌, ℕ, Bool, List, ◌∷◌, ap, sym, subst}
use Rattle.rx_model.specs.declared.answers.Took.TheVariants as tooks
use Rattle.rx_model.specs.Body.{Body}
use Rattle.rx_model.specs.Body as bodies
use Rattle.rx_model.specs.Message.{Message}
use Rattle.rx_rules.specs.CallLooks.{CallLooks, NodeView, after_chunk, after_data, after_taken, found, packet_of}
use Rattle.rx_rules.specs.Looks.{CallRecord}
use Rattle.rx_history.proofs.Calls.{found-ends}
use Rattle.rx_history.proofs.Ends.{Ends, ends_in}
use Rattle.rx_history.proofs.Given.HeldLaws.{beside_kept}
use Rattle.rx_history.proofs.Room.Roomy.{Takes}
use Rattle.rx_history.proofs.Rows.RowsKept.{Keepable, KeptBy}
use Rattle.rx_history.proofs.Room.Tight.{Tight, TightOf, more_looks}
use Rattle.rx_history.proofs.Laws.WholeLaws.{whole_keeps}

module _ (v : NodeView) (now : ℕ) (m : Message) (payload : List ℕ) (k : CallRecord) where
  -- the end of the call behind it
  abbrev kept_end : CallLooks
  kept_end = after_data tooks.Kept now m payload (found v.client k.looks)

  kept-ends : ends_in kept_end ≡ record (ends_in k.looks) { kept = packet_of m payload ∷ k.looks.received.kept }
  kept-ends = ap (λ (x : Ends). record x { kept = packet_of m payload ∷ k.looks.received.kept })
      (found-ends v.client k.looks)

  kept-tight : Keepable v (packet_of m payload) k.looks → TightOf v.client k
      → Tight v.client k.life (record (ends_in k.looks) { kept = packet_of m payload ∷ k.looks.received.kept })
  kept-tight by t =
      record {
        whole = λ live ended. (
            let w = t.whole live ended in
            absurd (whole_keeps (packet_of m payload) k.looks.received (record { complete = w.complete; used = w.used })
            by.slotted.above by.slotted.away by.below));
        first = λ client open_. (let shut = by.shut client in absurd (cc (shut, open_)));
        unshut = t.unshut;
        served = t.served;
      }

  kept-takes : Keepable v (packet_of m payload) k.looks → TightOf v.client k
      → Takes v.client v.left k (record k { looks = kept_end })
  kept-takes by t =
      record {
        more = more_looks k kept_end v.left (beside_kept v (packet_of m payload) m.seq k.looks by.slotted);
        tight = subst (λ (x : Ends). Tight v.client k.life x) (sym kept-ends) (kept-tight by t);
      }

-- the row is judged by one view and the change made by another of the same node
chunk-takes : (v w : NodeView) (m : Message) (body : Body) (k : CallRecord) → w.client ≡ v.client
    → KeptBy v m body k.looks → TightOf v.client k
    → Takes v.client v.left k (record k { looks = after_chunk w tooks.Kept m body k.looks })
chunk-takes v w m (bodies.Chunk payload) k same by t =
    let one : by.payload ≡ payload = (let is = by.is in cc (is)) in
    let can : Keepable v (packet_of m payload) k.looks = subst
    (λ (xs : List ℕ). Keepable v (packet_of m xs) k.looks) one by.keepable in
    subst (λ (b : Bool). Takes v.client v.left k
    (record k { looks = after_data tooks.Kept w.now m payload (found b k.looks) })) (sym same)
    (kept-takes v w.now m payload k can t)
chunk-takes v w m _ k same by t = absurd (let is = by.is in cc (is))

-- by the whole message
pub takes_kept : (v w : NodeView) (m : Message) (k : CallRecord) → w.client ≡ v.client → KeptBy v m m.body k.looks
    → TightOf v.client k
    → Takes v.client v.left k (record k { looks = after_taken w tooks.Kept m k.looks })
takes_kept v w m k same by t = chunk-takes v w m m.body k same by t
