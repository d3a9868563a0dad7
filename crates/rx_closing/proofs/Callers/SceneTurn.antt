-- The callers' turn at a stage at which no calls live but some, with room for them: what it makes of each of them at
-- its client.
use Rattle.std.proofs.Common.{◌≡◌, ◌≤◌, ◌<◌, ℕ, suc, true, false, List, [], refl, ap, ◌∙◌, Option, Some, None, length}
use Rattle.std.proofs.Common.{arith, slice_get, length-append}
use Rattle.rx_model.specs.declared.answers.End.{End}
use Rattle.rx_model.specs.declared.names.CallName.{CallName}
use Rattle.rx_rules.specs.CallLooks.{CallLooks}
use Rattle.rx_rules.specs.Life as lives
use Rattle.rx_rules.specs.Looks.{CallRecord}
use Rattle.rx_rules.specs.Received.{front_of, is_complete, unread_of, used_of}
use Rattle.rx_rules.specs.Rules.{Legal}
use Rattle.rx_rules.specs.Sent.{counting_of, held_pieces, opened, pieces_of}
use Rattle.rx_rules.specs.Setup.{FitsSetup}
use Rattle.rx_history.specs.Sides.{Node, side}
use Rattle.rx_law.proofs.World.{if-some}
use Rattle.rx_jobs.specs.Handlers.{Handlers}
use Rattle.rx_script.specs.declared.plan.Numbered.{Numbered}
use Rattle.xdr_value.specs.Data.{Data, Procedure, Types}
use Rattle.stub_table.specs.Streams.{request_spelling}
use Rattle.rx_reply.specs.Sent.{CanSend, sent_spelling, upload_spelling}
use Rattle.rx_plan.specs.Answering.{Invoked, invoked_at, request_for}
use Rattle.rx_plan.specs.Stages.{Stage}
use Rattle.rx_plan.specs.Turned.{turns_all}
use Rattle.rx_plan.proofs.Driven.{seen}
use Rattle.rx_plan.proofs.Followed.{IsFollowed}
use Rattle.rx_rounds.proofs.Rounded.{Made}
use Rattle.rx_closing.specs.Living.{looks_of}
use Rattle.rx_closing.proofs.Callers.CallerRest.{counts_on, rests_shut}
use Rattle.rx_closing.proofs.Callers.CallerTurn.{At, CallerLeft, calls, ended, ended_now, reads_on}
use Rattle.rx_closing.proofs.Callers.CallersHold.{CallerOf, caller_of}
use Rattle.rx_closing.proofs.Callers.CallersTurn.{callers_turn, client_there}
use Rattle.rx_closing.proofs.Ends.LastOnly.{one_last, unread_drained}
use Rattle.rx_closing.proofs.Frame.{AreAmong, Crowd, IsSpacious, OneOf, asked_in}
use Rattle.rx_closing.proofs.Steps.{TurnsOn}

-- ---- a request isn't long

upload_few : (up : Option (List ℕ)) (t : Types) (p : Procedure) (args : Data) → CanSend t p args up
    → length (upload_spelling up) ≤ 16777220
upload_few None t p args can = omega arith
upload_few (Some up) t p args can = (let low = can.1 in omega (arith, low))

-- 11,930 pieces at most
pub request_low : (t : Types) (p : Procedure) (args : Data) (up : Option (List ℕ)) → CanSend t p args up
    → opened (length (sent_spelling t p args up)) ≤ 11930
request_low t p args up can =
    let first : length (request_spelling t p args) ≤ 65536 = can.0.1 in
    let second : length (upload_spelling up) ≤ 16777220 = upload_few up t p args can in
    let whole = length-append (request_spelling t p args) (upload_spelling up) in
    low (length (sent_spelling t p args up)) (omega (arith, first, second, whole))
  where
    low : (n : ℕ) → n ≤ 16842756 → opened n ≤ 11930
    low n few = omega arith

-- so its pieces have numbers
pub request_few : (t : Types) (p : Procedure) (args : Data) (up : Option (List ℕ)) → CanSend t p args up
    → opened (length (sent_spelling t p args up)) < 4294967294
request_few t p args up can =
    (let low = request_low t p args up can in omega (arith, low))

-- ---- the turn

module _ (c : CallName) (k : ℕ) (client server : Node) where
  -- the moment of the client
  abbrev pub moment_of : Stage → ℕ
  moment_of s = (looks_of s (suc k) client).now

  -- where the call lives on, it is drained; all of its request was said, or a piece counts that isn't acknowledged; and
  -- where all that stands is acknowledged, all was said. Or it ended
  pub data AskedLeft (request : List ℕ) (now : ℕ) (a : CallLooks) (t : Stage) : Type 0 where
    asks_on : (f : CallRecord) → asked_in c k client t ≡ Some f → f.life ≡ lives.Calling → TurnsOn now a f.looks
        → unread_of f.looks.received ≡ [] → is_complete f.looks.received ≡ false
        → used_of f.looks.received ≡ front_of f.looks.received.kept
        → (held_pieces f.looks.sent ≡ 0 → (f.looks.sent.shut ≡ true) × (f.looks.sent.said ≡ request))
        → (f.looks.sent.shut ≡ false → f.looks.sent.acked < counting_of f.looks.sent) → AskedLeft request now a t
    has_ended : (f : CallRecord) (end : End) → asked_in c k client t ≡ Some f → f.life ≡ lives.Ended end
        → TurnsOn now a f.looks → AskedLeft request now a t

  -- the invoke of the call, and what its caller's turn makes of it
  pub record AskedTurn (g : Handlers) (ls : List Numbered) (now : ℕ) (a : CallLooks) (t : Stage) : Type 0 where
    pub line : ℕ
    pub invoke : Invoked
    pub at : invoked_at g ls line ≡ Some invoke
    pub can : CanSend g.types invoke.proc invoke.args invoke.up
    pub left : AskedLeft (request_for g invoke) now a t

  pub asked_turn : (cs : List CallName) (g : Handlers) (ls : List Numbered) (s t : Stage) (r : CallRecord)
      → OneOf c k client server s → Crowd cs s → IsFollowed g ls (seen s) → asked_in c k client s ≡ Some r
      → r.life ≡ lives.Calling → r.looks.sent.acked ≤ pieces_of r.looks.sent → Made turns_all s t
      → AskedTurn g ls (moment_of s) r.looks t
  asked_turn cs g ls s t r one crowd h there living known made =
      record {
        line = o.caller.line;
        invoke = o.is.origin.invoke;
        at = o.is.origin.at;
        can = o.is.origin.can;
        left =
            of (callers_turn (suc k) client c.host c.epoch one.client_is c cs now request o.place o.caller
            r.name r.looks s
            t (client_there k client s one.client_there) o.there o.of_node o.on o.others begins made);
      }
    where
      now : ℕ
      now = moment_of s

      o : CallerOf g ls (suc k) client c.host c.epoch one.client_is c now s r.looks
      o = caller_of g ls (suc k) client c.host c.epoch one.client_is c now s r h one.world.sides.nodes_are
          one.client_there there living

      request : List ℕ
      request = request_for g o.is.origin.invoke

      few : opened (length request) < 4294967294
      few = request_few g.types o.is.origin.invoke.proc o.is.origin.invoke.args o.is.origin.invoke.up o.is.origin.can

      fits : FitsSetup client.setup
      fits =
          if-some (slice_get s.nodes (suc k)) client (λ m. FitsSetup m.setup) one.client_there
          (one.world.sides.nodes_are.fits (suc k))

      space : IsSpacious cs client.setup
      space =
          if-some (slice_get s.nodes (suc k)) client (λ n. IsSpacious cs n.setup) one.client_there
          (crowd.space (suc k))

      legal : Legal client.setup (side (suc k) s.history)
      legal =
          if-some (slice_get s.nodes (suc k)) client (λ m. Legal m.setup (side (suc k) s.history)) one.client_there
          (one.world.sides.legal (suc k))

      same : r ≡ calls r.name r.looks
      same = λ i. record { name = r.name; life = living i; looks = r.looks }

      begins : At (suc k) client c.host c.epoch one.client_is c cs now s (calls r.name r.looks)
      begins =
          record {
            first = one.client_there;
            legal = legal;
            there = there ∙ ap (λ (q : CallRecord). Some q) same;
            moment = refl;
            among =
                if-some (slice_get s.nodes (suc k)) client (λ n. AreAmong cs (looks_of s (suc k) n)) one.client_there
                (crowd.among (suc k));
          }

      of : CallerLeft (suc k) client c.host c.epoch one.client_is c cs now request r.looks t
          → AskedLeft request now r.looks t
      of (reads_on name f at turn none part said) =
          asks_on (calls name f) at.there refl turn none part
          (unread_drained f.received
          (one_last client.setup (side (suc k) t.history) c (calls name f) fits at.legal at.there) none part)
          (rests_shut (suc k) client c.host c.epoch one.client_is c cs now fits space request few r.looks known f.sent
          said)
          (counts_on (suc k) client c.host c.epoch one.client_is c cs now fits space request few r.looks known f.sent
          said)
      of (ended_now name f end at turn) = has_ended (ended name end f) end at.there refl turn
