-- Where no node owes anything beside what its calls give, all that a round's polls give is of streams; and what is of a
-- call's stream was given by one of its ends.
use Rattle.std.proofs.Common.{◌≡◌, ◌<◌, ◌++◌, ℕ, zero, suc, if◌then◌else◌, Bool, List, [], ◌∷◌, refl, ap, sym, arith}
use Rattle.std.proofs.Common.{subst, ◌∙◌, inl, inr, ⊎_elim, Some, Ok, option_map, append-nil, append_assoc, length}
use Rattle.std.specs.Prelude.{slice_get, IfSome}
use Rattle.rx_model.specs.declared.event.Event.{Event}
use Rattle.rx_model.specs.declared.event.Event.TheVariants as events
use Rattle.rx_model.specs.declared.event.Noted.{Noted}
use Rattle.rx_model.specs.declared.names.CallName.{CallName}
use Rattle.rx_model.specs.declared.names.Host.{Host}
use Rattle.rx_model.specs.declared.stray.Stray.{Stray}
use Rattle.rx_model.specs.Message.{Message}
use Rattle.rx_model.specs.Names.{name_of}
use Rattle.rx_model.specs.Reading.{reading_of}
use Rattle.rx_rules.specs.After.{looks}
use Rattle.rx_rules.specs.Items.{poll_answer}
use Rattle.rx_rules.specs.Records.{silenced}
use Rattle.rx_rules.specs.Rules.{Legal}
use Rattle.rx_rules.specs.Setup.{Client, FitsSetup, IsServer, Kind, Server, Setup, client_host, is_client, named}
use Rattle.rx_rules.proofs.EveryLaws.{Every, every-append}
use Rattle.rx_history.specs.Givings.{GivesItem, GivesPlain, GivesStray}
use Rattle.rx_history.specs.Sides.{IsClientAt, Node, side}
use Rattle.rx_history.proofs.Given.Givings.{poll_gives}
use Rattle.rx_law.proofs.World.{and-some, if-some}
use Rattle.rx_law.specs.Worlds.{Datagram, World}
use Rattle.rx_plan.specs.Parts.{To, each}
use Rattle.rx_plan.specs.Rounds.{Polled, polls, polls_out}
use Rattle.rx_plan.specs.Stages.{Stage}
use Rattle.rx_rounds.proofs.Clocks.ClocksMove.{AreApart as AreDistinct, from_on, low_order, order_apart, order_is}
use Rattle.rx_between.proofs.Each.EachItem.{In}
use Rattle.rx_rounds.proofs.Making.{ends_to, then_to}
use Rattle.rx_rounds.proofs.Rounded.{Made}
use Rattle.rx_rounds.proofs.Two.{out_to, sent}
use Rattle.rx_closing.specs.Living.{looks_of}
use Rattle.rx_closing.proofs.Frame.{IsPlain}
use Rattle.rx_closing.proofs.Living.CrowdRounds.{SaidFor}
use Rattle.rx_closing.proofs.Owing.ChannelsStay.{IsMute, null_mute}
use Rattle.rx_closing.proofs.Owing.OwesNone.{OwesNone, owes_none_after}
use Rattle.rx_closing.proofs.Polls.Bare.{bare_next}
use Rattle.rx_closing.proofs.Polls.InParts.{none_in}
use Rattle.rx_closing.proofs.Polls.NodeTurn.{node_turn}
use Rattle.rx_closing.proofs.Polls.Polled.{NoStreamOf, RoundPolled, name_in}
use Rattle.rx_closing.proofs.Rounds.RoundEvents.{every_at}
use Rattle.rx_closing.proofs.Unknown.UnservedMeet.{bare_of}
use Rattle.rx_rounds.proofs.Clocks.GivesOrMoves.{nth_low}
use Rattle.rx_history.proofs.Plain.PlainBodies.{IsSent}
use Rattle.rx_rounds.proofs.Polls.QuietPolls.{nth_there}

-- ---- one node

-- a datagram says a message of a stream
pub record SaysStream (d : Datagram) : Type 0 where
  pub message : Message
  pub reads : reading_of d.bytes ≡ Ok message
  pub stream : IsSent message.body

module _ (s : Setup) (fits : FitsSetup s) (mute : IsMute s.class) (from : Host) where
  abbrev StreamsOn : List Event → List Event → List Datagram → Type 0
  StreamsOn h later ds = OwesNone (looks s h) → Every SaysStream ds

  streams_some : (h later : List Event) (to : Host) (bytes : List ℕ) (ds : List Datagram) → Legal s h
      → poll_answer s (looks s h) ≡ Some (to, bytes) → StreamsOn (events.Polled (Some (to, bytes)) ∷ h) later ds
      → StreamsOn h later (sent from to bytes ∷ ds)
  streams_some h later to bytes ds legal is rest none = (
    of (poll_gives s h fits legal to bytes is),
    rest (owes_none_after s mute (looks s h) (events.Polled (Some (to, bytes))) tt none),
  )
    where
      some_stray : (x : Stray) (xs : List Stray) → [] ≡ x ∷ xs → ⊥
      some_stray x xs empty = cc

      of : GivesPlain s (looks s h) to bytes → SaysStream (sent from to bytes)
      of p = record {
        message = p.message;
        reads = p.read;
        stream = ⊎_elim
            (λ (g : GivesStray (looks s h) to p.message). absurd (some_stray g.oldest g.later
            (sym none.strays ∙ g.owed)))
            (λ (g : GivesItem s (looks s h) to p.message). subst (λ (m : Message). IsSent m.body) (sym g.is)
            (bare_next s (silenced (looks s h)) g.item (bare_of (looks s h) none).channels g.next)) p.owed;
      }

-- ---- several nodes

-- a node that is there and owes nothing
record OwesAt (j : ℕ) (s : Stage) : Type 0 where
  node : Node
  there : slice_get s.nodes j ≡ Some node
  fits : FitsSetup node.setup
  mute : IsMute node.setup.class
  legal : Legal node.setup (side j s.history)
  none : OwesNone (looks_of s j node)

-- it stays so where its side stays
owes_stays : (j : ℕ) (s t : Stage) → t.nodes ≡ s.nodes → side j t.history ≡ side j s.history → OwesAt j s → OwesAt j t
owes_stays j s t nodes same r =
    record {
      node = r.node;
      there = ap (λ (ns : List Node). slice_get ns j) nodes ∙ r.there;
      fits = r.fits;
      mute = r.mute;
      legal = subst (Legal r.node.setup) (sym same) r.legal;
      none = subst (λ (h : List Event). OwesNone (looks r.node.setup h)) (sym same) r.none;
    }

record StreamsOut (p q : Polled) : Type 0 where
  gave : List Datagram
  then_ : q.given ≡ p.given ++ gave
  streams : Every SaysStream gave

each_streams : (ns : List ℕ) (p q : Polled) → AreDistinct ns → ((j : ℕ) → In j ns → OwesAt j p.stage)
    → Made (each polls_out ns) p q → StreamsOut p q
each_streams [] p q distinct owes made =
    record {
      gave = [];
      then_ = ap (λ (r : Polled). r.given) (ends_to p q made.0 made.1) ∙ sym (append-nil p.given);
      streams = tt;
    }
each_streams (k ∷ ns) p q distinct owes made =
    let b = then_to (polls_out k p) (each polls_out ns) made.0 q made.1 in
    let r = owes k (inl refl) in
    let o = out_to k r.node.host p b.between b.front (ap (option_map (λ (m : Node). m.host)) r.there) b.made in
    let turn = node_turn r.node.host k r.node o.0 b.between.stage
    (StreamsOn r.node.setup r.fits r.mute r.node.host) (λ h legal is none. tt)
    (streams_some r.node.setup r.fits r.mute r.node.host) p.given p.stage o.2.0 r.there r.legal o.2.1 in
    let nodes : b.between.stage.nodes ≡ p.stage.nodes = ap (λ (u : Stage). u.nodes) turn.out.rest in
    let later = each_streams ns b.between q distinct.1 (λ j there. owes_stays j p.stage b.between.stage nodes
    (turn.out.others j (λ is. none_in k ns j distinct.0 there (sym is))) (owes j (inr there))) (b.rest, b.goes) in
    record {
      gave = turn.gave ++ later.gave;
      then_ = later.then_
          ∙ ap (λ (ds : List Datagram). ds ++ later.gave) (o.1 ∙ turn.more)
          ∙ append_assoc p.given turn.gave later.gave;
      streams = every-append SaysStream turn.gave later.gave (turn.res r.none) later.streams;
    }

-- ---- a round

-- all that is given is of streams
pub streams_given : (s : Stage) (p : Polled) → World s.nodes s.history
    → ((j : ℕ) → IfSome (slice_get s.nodes j) IsPlain) → (server : Node) → slice_get s.nodes 0 ≡ Some server
    → ((j : ℕ) (n : Node) → slice_get s.nodes j ≡ Some n → OwesNone (looks_of s j n)) → Made polls s p
    → Every SaysStream p.given
streams_given s p world plain server first owes made =
    of (length s.nodes) refl (nth_low s.nodes 0 server first)
  where
    at : (j : ℕ) → j < length s.nodes → OwesAt j s
    at j low =
        let n = nth_there s.nodes j low in
        record {
          node = n.0;
          there = n.1;
          fits = if-some (slice_get s.nodes j) n.0 (λ m. FitsSetup m.setup) n.1 (world.sides.nodes_are.fits j);
          mute =
              null_mute n.0.setup.class (if-some (slice_get s.nodes j) n.0 IsPlain n.1 (plain j)).open_;
          legal = if-some (slice_get s.nodes j) n.0 (λ m. Legal m.setup (side j s.history)) n.1 (world.sides.legal j);
          none = owes j n.0 n.1;
        }

    of : (size : ℕ) → length s.nodes ≡ size → 0 < size → Every SaysStream p.given
    of zero many some = absurd (let no : ⊥ = omega arith in no)
    of (suc count) many some =
        let start : Polled = record { stage = s; given = [] } in
        let all : each polls_out (from_on 1 count ++ 0 ∷ []) start made.0 (To p) =
        subst (λ (ns : List ℕ). each polls_out ns start made.0 (To p)) (order_is s count many) made.1 in
        let o = each_streams (from_on 1 count ++ 0 ∷ []) start p (order_apart count)
        (λ j there. at j (subst (λ (n : ℕ). j < n) (sym many) (low_order count j there))) (made.0, all) in
        subst (Every SaysStream) (sym o.then_) o.streams

-- ---- who gave what is of a call's stream

-- what is said of a call's stream names it
pub said_name : (nodes : List Node) (now : List Noted) → World nodes now → (c : CallName) (h : List Noted)
    (d : Datagram) (m : Message) → SaidFor nodes c h d m → name_in d m ≡ c
said_name nodes now world c h d m said =
    ap (λ (b : Bool). name_of (if b then d.from else d.to) m) said.flag
    ∙ by said.index said.node said.there said.host ∙ said.call
  where
    home : (j : ℕ) (n : Node) → slice_get nodes j ≡ Some n → d.from ≡ n.host → (kind : Kind) → n.setup.kind ≡ kind
        → name_of (if is_client kind then d.from else d.to) m ≡ name_of (client_host kind d.to) m
    home j n there host (Server service nonces) kind = refl
    home zero n there host (Client at epoch) kind =
        absurd (subst IsServer kind
        (and-some (slice_get nodes 0) n (λ m. IsServer m.setup.kind) there world.sides.nodes_are.server))
    home (suc j) n there host (Client at epoch) kind =
        let own : at ≡ n.host = subst (IsClientAt n.host) kind
        (if-some (slice_get nodes (suc j)) n (λ m. IsClientAt m.host m.setup.kind) there
        (world.sides.nodes_are.clients j)) in
        ap (λ (x : Host). name_of x m) (host ∙ sym own)

    by : (j : ℕ) (n : Node) → slice_get nodes j ≡ Some n → d.from ≡ n.host
        → name_of (if is_client n.setup.kind then d.from else d.to) m ≡ named n.setup d.to m
    by j n there host = home j n there host n.setup.kind refl

module _ (c : CallName) (k : ℕ) (client server : Node) (peer : Host) (service : ℕ) (s : Stage) (p : Polled) where
  -- where both ends gave nothing, nothing of its stream was given
  pub gave_none : World s.nodes s.history → (q : RoundPolled c k client server peer service s p) → q.asks ≡ []
      → q.answers ≡ [] → (d : Datagram) → In d p.given → (m : Message) → reading_of d.bytes ≡ Ok m → IsSent m.body
      → (h : List Noted) → SaidFor s.nodes c h d m → ⊥
  gave_none world q asks answers d there m reads stream h said =
      every_at (NoStreamOf c) p.given d there (q.quiet asks answers) m reads stream
      (said_name s.nodes s.history world c h d m said)
