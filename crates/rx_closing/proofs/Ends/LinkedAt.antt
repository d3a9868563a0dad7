-- What the laws of two ends say of a call that is at work at both and drained: the two are linked.
use Rattle.std.proofs.Common.{◌≡◌, ◌≤◌, is_some, false, List, Option, Some, subst, inl, inr, arith}
use Rattle.rx_model.specs.declared.event.Noted.{Noted}
use Rattle.rx_model.specs.declared.names.CallName.{CallName}
use Rattle.rx_model.specs.Names.{connection_of}
use Rattle.rx_rules.specs.After.{looks}
use Rattle.rx_rules.specs.Looks.{CallRecord, call_at}
use Rattle.rx_rules.specs.Received.{packet_at}
use Rattle.rx_rules.specs.Sent.{given_of, lowest_of}
use Rattle.rx_law.proofs.Joint.{Fed, between}
use Rattle.rx_law.specs.Worlds.{TwoEnds}
use Rattle.rx_history.specs.Sides.{side}
use Rattle.rx_between.specs.Acknowledged.{received_by, sent_by}
use Rattle.rx_between.specs.Agreed.{Agrees}
use Rattle.rx_between.proofs.AllAgree.{all_agree}
use Rattle.rx_between.proofs.BothTrue.{all-used}
use Rattle.rx_between.proofs.CameAll.{CameAll}
use Rattle.rx_between.proofs.Histories.{server_whole}
use Rattle.rx_between.proofs.Marks.{used_kept}
use Rattle.rx_between.proofs.SaysLate.{IsSilent, SaysLate, server_says_late}
use Rattle.rx_between.proofs.Sense.{client_gives}
use Rattle.rx_progress.specs.Moving.{IsDrained}
use Rattle.rx_closing.proofs.Ends.BothEnds.{Linked}

module _ (x : TwoEnds) (h : List Noted) (f : Fed x h) (came : CameAll x h) (c : CallName)
    (on : connection_of c ≡ x.connection) where
  abbrev asked : Option CallRecord
  asked = call_at (looks x.client_setup (side x.client h)) c

  abbrev served : Option CallRecord
  served = call_at (looks x.server_setup (side x.server h)) c

  -- a server that doesn't have the lowest piece of the request said nothing yet
  server-silent : lowest_of (sent_by asked) ≤ given_of (sent_by asked)
      → is_some (packet_at (received_by served).kept (lowest_of (sent_by asked))) ≡ false → IsSilent (sent_by served)
  server-silent given away =
      by (server_says_late x.server_setup (side x.server h) c f.server_kind f.server_fits f.server_legal (f.once c on))
    where
      by : SaysLate served → IsSilent (sent_by served)
      by (inl silent) = silent
      by (inr ended) =
          absurd (let used = all-used asked served (between x h c f on).request
          (server_whole x.server_setup (side x.server h) c f.server_kind f.server_fits f.server_legal
          (f.once c on)) ended
          in
          let counts = (client_gives x h f came c on).counts in
          let there = used_kept (received_by served) (lowest_of (sent_by asked)) (omega arith)
          (omega (arith, given, counts, used)) in
          cc (there, away))

  linked-by : (o p : Option CallRecord) (a b : CallRecord) → o ≡ Some a → p ≡ Some b
      → Agrees x.client_setup x.server_setup o p
      → (lowest_of (sent_by o) ≤ given_of (sent_by o)
      → is_some (packet_at (received_by p).kept (lowest_of (sent_by o))) ≡ false → IsSilent (sent_by p))
      → IsDrained a.looks.received → IsDrained b.looks.received → Linked a.looks b.looks
  linked-by o p a b is_a is_b agrees late drained_a drained_b =
      let all : Agrees x.client_setup x.server_setup (Some a) (Some b) =
      subst (λ (q : Option CallRecord). Agrees x.client_setup x.server_setup (Some a) q) is_b
      (subst (λ (q : Option CallRecord). Agrees x.client_setup x.server_setup q p) is_a agrees) in
      record {
        request_true = all.request_true;
        reply_true = all.reply_true;
        request_given = all.request_given;
        reply_given = all.reply_given;
        client_drained = drained_a;
        server_drained = drained_b;
        late = subst (λ (q : Option CallRecord). lowest_of a.looks.sent ≤ given_of a.looks.sent
            → is_some (packet_at (received_by q).kept (lowest_of a.looks.sent)) ≡ false → IsSilent (sent_by q)) is_b
            (subst (λ (q : Option CallRecord). lowest_of (sent_by q) ≤ given_of (sent_by q)
            → is_some (packet_at (received_by p).kept (lowest_of (sent_by q))) ≡ false
            → IsSilent (sent_by p)) is_a late);
      }

  -- where each end is drained
  pub linked_at : (a b : CallRecord) → asked ≡ Some a → served ≡ Some b → IsDrained a.looks.received
      → IsDrained b.looks.received → Linked a.looks b.looks
  linked_at a b is_a is_b drained_a drained_b =
      linked-by asked served a b is_a is_b (all_agree x c h f came on) server-silent drained_a drained_b
