-- The numbers of a load are those of its history.
use Rattle.std.proofs.Common.{◌≡◌, ◌+◌, ◌-◌, ◌^◌, min, ℕ, suc, true, List, [], ◌∷◌, reverse, length}
use Rattle.std.proofs.Common.{Option, Some, None, refl, ap, sym, subst, ◌∙◌, slice_get}
use Rattle.rand_pcg.specs.Pcg.{pcg32}
use Rattle.rx_model.specs.declared.answers.End.{End}
use Rattle.rx_model.specs.declared.event.Noted.{Noted}
use Rattle.rx_model.specs.declared.names.CallName.{CallName}
use Rattle.rx_model.specs.declared.names.Host.{Host}
use Rattle.rx_rules.specs.After.{looks}
use Rattle.rx_rules.specs.Life.{Life, is_live}
use Rattle.rx_rules.specs.Life as lives
use Rattle.rx_rules.specs.Looks.{CallRecord, Looks, call_at, is_call}
use Rattle.rx_rules.specs.Setup.{Client, FitsSetup, Kind, Server, is_client}
use Rattle.rx_history.specs.Sides.{Node, side}
use Rattle.rx_history.specs.Streams as streams
use Rattle.rx_law.proofs.World.{if-some}
use Rattle.rx_asks.specs.declared.ask.TheConstants.{REPLY_BYTES}
use Rattle.rx_asks.specs.History.{IsCalled, Tells}
use Rattle.rx_asks.proofs.Driving.{tells_driven}
use Rattle.rx_plan.specs.Finds.{at_client}
use Rattle.rx_plan.specs.Lines.{connects}
use Rattle.rx_plan.specs.Lossy.{carries}
use Rattle.rx_plan.specs.Parts.{Came, Cut, Endless, Refused, To, each}
use Rattle.rx_plan.specs.Rounds.{polls}
use Rattle.rx_plan.specs.Stages.{InvokedState, Stage}
use Rattle.rx_plan.proofs.Allowed.{legal_side}
use Rattle.rx_plan.proofs.Bags.{behind, behind_none}
use Rattle.rx_plan.proofs.Callers.{IsClientNode}
use Rattle.rx_plan.proofs.Following.{empty_followed}
use Rattle.rx_plan.proofs.HasCaller.{HasCaller}
use Rattle.rx_plan.proofs.Leading.{each_lead, ends_lead, then_lead}
use Rattle.rx_plan.proofs.Shaped.{carries_lead, polls_lead}
use Rattle.rx_plan.proofs.Soundness.Sound as sound
use Rattle.rx_load.specs.Loads.{Load, at_stage, body_length, clients, first_stage}
use Rattle.rx_load.specs.Loads.{load_handlers, load_nodes, load_part, load_request, next_call}
use Rattle.rx_load.specs.Saying.{IsCallers, SaidOf, end_for, ended_in, ends_in, givens, read_for, read_in}
use Rattle.rx_load.specs.Summing.{count_all, count_by, counts_none, spells}
use Rattle.rx_load.specs.declared.ends.Ends.{Ends}
use Rattle.rx_load.proofs.Callers.{AllKnow, Opened, Waits, knowing, opened_with, polled_knows}
use Rattle.rx_load.proofs.Given.{HasGiven, connects_give, giving, opens_give, polls_give, tally_given}
use Rattle.rx_load.proofs.Leads.{LoadShapes, load_leads}
use Rattle.rx_load.proofs.Loading.{IsLoad, load_safe}
use Rattle.rx_load.proofs.Nodes.{nodes_are}
use Rattle.rx_load.proofs.Noticing.{IsFresh, IsKnown, carries_known, connects_fresh, fresh_known, opens_known}

-- ---- what its callers know

callers_shape : LoadShapes (λ l. IsFresh l.net.stage) (λ l. IsKnown l.net.stage)
callers_shape = record {
  connects = λ l so.
      then_lead IsFresh (λ m. IsFresh m.net.stage) (each (λ client. at_client client (connects 1)) clients l.net.stage)
      _
      (each_lead IsFresh (λ client. at_client client (connects 1)) (λ client s there. connects_fresh client s there)
      clients
      l.net.stage so)
      (λ s there. ends_lead (λ m. IsFresh m.net.stage) (To (at_stage l s)) there);
  starts = λ l so. fresh_known l.net.stage so;
  opens = λ client l so.
      then_lead IsKnown (λ m. IsKnown m.net.stage) _ _
      (opens_known client (next_call l.next client) 4
      (load_request (next_call l.next client) (body_length (pcg32 l.net.words).0)) l.net.stage so)
      (λ s there. ends_lead (λ m. IsKnown m.net.stage) _ there);
  lossy = λ l so.
      then_lead (λ p. AllKnow p.stage) (λ m. IsKnown m.net.stage) (polls l.net.stage) _
      (polls_lead load_handlers AllKnow knowing polled_knows l.net.stage so.all)
      (λ p polled.
      then_lead (λ n. IsKnown n.stage) (λ m. IsKnown m.net.stage)
      (carries load_handlers l.net.words l.net.held p.given p.stage) _
      (carries_known l.net.words l.net.held p.given p.stage polled)
      (λ net there. ends_lead (λ m. IsKnown m.net.stage) _ there));
}

first_fresh : IsFresh first_stage
first_fresh = record {
  follows = empty_followed load_handlers Opened opened_with first_stage
      (record { history = refl; callers = refl; jobs = refl });
  are = nodes_are;
  none = refl;
}

-- ---- what its network gave

abbrev IsGiven : Load → Type 0
IsGiven l = l.tally.given ≡ min (givens l.net.stage.history) (2 ^ 64 - 1)

given_shape : LoadShapes IsGiven IsGiven
given_shape = record {
  connects = λ l so.
      then_lead (HasGiven (givens l.net.stage.history)) IsGiven
      (each (λ client. at_client client (connects 1)) clients l.net.stage) _
      (each_lead (HasGiven (givens l.net.stage.history)) (λ client. at_client client (connects 1))
      (λ client s there. connects_give (givens l.net.stage.history) client s there) clients l.net.stage refl)
      (λ s there. ends_lead IsGiven (To (at_stage l s)) (so ∙ ap (λ n. min n (2 ^ 64 - 1)) (sym there)));
  starts = λ l so. so;
  opens = λ client l so.
      then_lead (HasGiven (givens l.net.stage.history)) IsGiven _ _
      (opens_give (givens l.net.stage.history) client (next_call l.next client) 4
      (load_request (next_call l.next client) (body_length (pcg32 l.net.words).0)) l.net.stage refl)
      (λ s there. ends_lead IsGiven _ (so ∙ ap (λ n. min n (2 ^ 64 - 1)) (sym there)));
  lossy = λ l so.
      then_lead (λ p. givens p.stage.history ≡ givens l.net.stage.history + length p.given) IsGiven (polls l.net.stage)
      _
      (polls_give (givens l.net.stage.history) l.net.stage refl)
      (λ p polled.
      then_lead (λ n. HasGiven (givens l.net.stage.history + length p.given) n.stage) IsGiven
      (carries load_handlers l.net.words l.net.held p.given p.stage) _
      (carries_lead load_handlers (HasGiven (givens l.net.stage.history + length p.given))
      (giving (givens l.net.stage.history + length p.given)) l.net.words l.net.held p.given p.stage polled)
      (λ net there.
      ends_lead IsGiven _
      (tally_given l.net.words p.given l.tally (givens l.net.stage.history) so
      ∙ ap (λ n. min n (2 ^ 64 - 1)) (sym there))));
}

-- ---- both counts of its calls

-- what a caller knows is what its client's history says
abbrev IsSame : List Noted → InvokedState → Type 0
IsSame h i = (i.caller.end ≡ ended_in h i) × (i.caller.reply ≡ read_in h i)

counts_same : (h : List Noted) (bodies : List ℕ) (ks : List InvokedState) (e : Ends)
    → ((j : ℕ) (i : InvokedState) → slice_get ks j ≡ Some i → IsSame h i)
    → count_all bodies ks e ≡ ends_in h bodies ks e
counts_same h bodies [] e same = refl
counts_same h bodies (i ∷ is) e same =
    (let one = same 0 i refl in
    (λ t. count_all bodies is (count_by (spells (one.1 t) (slice_get bodies i.line)) (one.0 t) e))
    ∙ counts_same h bodies is
    (count_by (spells (read_in h i) (slice_get bodies i.line)) (ended_in h i) e) (λ j k at. same (suc j) k at))

lives_called : (x : Life) → IsCalled x → is_live x ≡ true → x ≡ lives.Calling
lives_called lives.Calling called living = refl
lives_called (lives.Ended end) called living = absurd cc
lives_called lives.Waiting called living = absurd called
lives_called lives.Accepted called living = absurd called
lives_called lives.Finished called living = absurd called
lives_called (lives.Broken code) called living = absurd called
lives_called (lives.Over code) called living = absurd called

module _ (s : Stage) (known : IsKnown s) (at : s.nodes ≡ load_nodes) where
  caller_same : (j : ℕ) (i : InvokedState) → slice_get s.callers j ≡ Some i → IsSame s.history i
  caller_same j i there = (ends (i.caller.end) refl, reply_is ∙ sym read_is)
    where
      w : Waits s.nodes s.history i
      w = known.all.each j i there

      n : IsClientNode s.nodes i.node
      n = w.at.node

      l : Looks
      l = looks n.client.setup (side i.node s.history)

      node_is : slice_get load_nodes i.node ≡ Some n.client
      node_is = subst (λ (ns : List Node). slice_get ns i.node ≡ Some n.client) at n.there

      ended_is : ended_in s.history i ≡ streams.end_at l i.caller.call
      ended_is = ap (λ (o : Option Node). end_for o (side i.node s.history) i.caller.call) node_is

      read_is : read_in s.history i ≡ streams.read l i.caller.call
      read_is = ap (λ (o : Option Node). read_for o (side i.node s.history) i.caller.call) node_is

      reply_is : i.caller.reply ≡ streams.read l i.caller.call
      reply_is =
          (let c = (known.all.follows.played known.all.are).callers.each_is j i there in
          let tells : Tells (opened_with i.line c.origin) i.caller l =
          tells_driven n.client.setup n.host n.epoch REPLY_BYTES (opened_with i.line c.origin) i.caller
          (side i.node s.history) n.kind
          (if-some (slice_get s.nodes i.node) n.client (λ m. FitsSetup m.setup) n.there (known.all.are.fits i.node))
          (legal_side s.nodes s.history i.node n.client n.there known.all.follows.allowed) c.drives in
          tells.reply)

      by_life : (x : Life) → w.at.knows.call.life ≡ x → streams.end_at l i.caller.call ≡ streams.end_of_life x
      by_life x is = ap streams.end_by w.at.knows.there ∙ ap streams.end_of_life is

      ends : (o : Option End) → i.caller.end ≡ o → i.caller.end ≡ ended_in s.history i
      ends None none =
          none ∙ sym (ended_is
          ∙ by_life lives.Calling
          (lives_called w.at.knows.call.life w.at.knows.called
          (sym (ap (is_call (λ k. is_live k.life)) w.at.knows.there) ∙ known.notice j i there n.client n.there none)))
      ends (Some end) some = some ∙ sym (ended_is ∙ by_life (lives.Ended end) (w.at.knows.ended end some))

  each_call : (client : ℕ) (n : Node) (c : CallName) (k : CallRecord) → slice_get load_nodes client ≡ Some n
      → is_client n.setup.kind ≡ true → call_at (looks n.setup (side client s.history)) c ≡ Some k
      → IsCallers s.callers client c
  each_call client n c k there kind is = by n.setup.kind refl kind
    where
      has : (host : Host) (epoch : ℕ) → n.setup.kind ≡ Client host epoch → IsCallers s.callers client c
      has host epoch kind =
          (let has : HasCaller s.callers client c =
          (known.all.follows.played known.all.are).each_has client n host epoch
          (subst (λ (ns : List Node). slice_get ns client ≡ Some n) (sym at) there) kind c
          (record { call = k; there = is }) in
          record { place = has.place; caller = has.caller; there = has.there; of_node = has.of_node; call = has.call })

      by : (x : Kind) → n.setup.kind ≡ x → is_client x ≡ true → IsCallers s.callers client c
      by (Server service nonces) is client_is = absurd cc
      by (Client host epoch) is client_is = has host epoch is

-- ---- a whole load

pub load_said : (number calls : ℕ) (es : List Noted) (came : Came Load) → load_part number calls es came
    → SaidOf (reverse es) came
load_said number calls es (Refused why) made = tt
load_said number calls es Cut made = tt
load_said number calls es Endless made = tt
load_said number calls es (To l) made = record {
  given = given ∙ ap (λ (h : List Noted). min (givens h) (2 ^ 64 - 1)) history;
  ends = subst (λ (h : List Noted). count_all l.bodies l.net.stage.callers counts_none
      ≡ ends_in h l.bodies l.net.stage.callers counts_none) history
      (counts_same l.net.stage.history l.bodies l.net.stage.callers counts_none (caller_same l.net.stage known nodes));
  each_call = λ client n c k there kind is.
      each_call l.net.stage known nodes client n c k there kind
      (subst (λ (h : List Noted). call_at (looks n.setup (side client h)) c ≡ Some k) (sym history) is);
  apart = (known.all.follows.played known.all.are).callers.apart;
}
  where
    safe : sound.Ends (Unit {0}) load_nodes (IsLoad (Unit {0})) (behind es []) (To l)
    safe = load_safe (Unit {0}) number calls es (To l) made

    history : l.net.stage.history ≡ reverse es
    history = safe.came.stage.history ∙ behind_none es

    nodes : l.net.stage.nodes ≡ load_nodes
    nodes = safe.came.stage.at

    known : IsKnown l.net.stage
    known = load_leads _ _ callers_shape number calls first_fresh es l made

    given : l.tally.given ≡ min (givens l.net.stage.history) (2 ^ 64 - 1)
    given = load_leads IsGiven IsGiven given_shape number calls refl es l made
