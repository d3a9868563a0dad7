-- The polls of clients other than a call's own: nothing that they give is of it.
use Rattle.std.proofs.Common.{◌≡◌, ◌++◌, ℕ, List, [], ◌∷◌, refl, ap, sym, subst, ◌∙◌, inl, inr, ⊎_elim, Option, Some}
use Rattle.std.proofs.Common.{None, Bool, true, false, not, if◌then◌else◌, option_map, append-nil}
use Rattle.std.specs.Prelude.{slice_get}
use Rattle.rx_model.specs.declared.answers.Took.{Took}
use Rattle.rx_model.specs.declared.answers.Took.TheVariants as tooks
use Rattle.rx_model.specs.declared.event.Event.{Event}
use Rattle.rx_model.specs.declared.event.Event.TheVariants as events
use Rattle.rx_model.specs.declared.names.CallName.{CallName}
use Rattle.rx_model.specs.declared.names.Host.{Host}
use Rattle.rx_model.specs.declared.stray.Stray.{Stray}
use Rattle.rx_model.specs.declared.wire.TheConstants.{CLIENT_INITIATED}
use Rattle.rx_model.specs.Message.{Message, has_flag}
use Rattle.rx_model.specs.Names.{connection_of}
use Rattle.rx_rules.specs.After.{looks}
use Rattle.rx_rules.specs.Items.{poll_answer}
use Rattle.rx_rules.specs.Judging.{is_peer, outer_row}
use Rattle.rx_rules.specs.Looks.{Looks, conn_at}
use Rattle.rx_rules.specs.Rules.{Legal}
use Rattle.rx_rules.specs.Setup.{Client, FitsSetup, Kind, Setup, named}
use Rattle.rx_rules.proofs.EveryLaws.{Every, every-append}
use Rattle.rx_history.specs.Givings.{GivesItem, GivesPlain, GivesStray}
use Rattle.rx_history.specs.Sides.{Node, moment, side}
use Rattle.rx_history.proofs.Data.{OwnName}
use Rattle.rx_history.proofs.Given.GivingItems.{item_name}
use Rattle.rx_history.proofs.Given.Givings.{next_is, poll_gives}
use Rattle.rx_law.proofs.World.{gave-mine}
use Rattle.rx_law.specs.Worlds.{AreApart, Datagram}
use Rattle.rx_plan.proofs.Keys.StraysCame.{CameStray, strays_came}
use Rattle.rx_plan.specs.Parts.{each}
use Rattle.rx_plan.specs.Rounds.{Polled, polls_out}
use Rattle.rx_plan.specs.Stages.{Stage}
use Rattle.rx_rounds.proofs.Clocks.ClocksMove.{AreApart as AreDistinct, IsNone}
use Rattle.rx_between.proofs.Each.EachItem.{In}
use Rattle.rx_rounds.proofs.Making.{then_to}
use Rattle.rx_rounds.proofs.Rounded.{Made}
use Rattle.rx_rounds.proofs.Two.{out_to, sent}
use Rattle.rx_closing.proofs.Messages.Delivered.{node_is}
use Rattle.rx_closing.proofs.Polls.EndPolls.{IsHome, apart_given}
use Rattle.rx_closing.proofs.Polls.InParts.{none_in, rest_both, then_both}
use Rattle.rx_closing.proofs.Polls.NodeTurn.{Out, OutAt, node_turn}
use Rattle.rx_closing.proofs.Polls.OneGives.{polled_legal}
use Rattle.rx_closing.proofs.Polls.Polled.{NotOf}

-- ---- a client owes no stray abort

-- no row in front at a client says that a service isn't there
client_served : (s : Setup) (host : Host) (epoch : ℕ) (l : Looks) (from : Host) (m : Message)
    → outer_row s (Client host epoch) l from m ≡ Some tooks.Unserved → ⊥
client_served s host epoch l from m is =
    by (has_flag CLIENT_INITIATED m.flags) (is_peer from (conn_at l (connection_of (named s from m)))) _ is
  where
    one : (a b : Took) → ◌≡◌ {A = Option Took} (Some a) (Some b) → a ≡ b
    one a b same = cc

    by : (a b x : Bool)
        → (if a then Some tooks.Foreign else if not b then Some tooks.Strange else if not x then Some tooks.Strange
        else None) ≡ Some tooks.Unserved → ⊥
    by true b x same = (let no : tooks.Foreign ≡ tooks.Unserved = one tooks.Foreign tooks.Unserved same in cc (no))
    by false false x same = (let no : tooks.Strange ≡ tooks.Unserved = one tooks.Strange tooks.Unserved same in cc (no))
    by false true true same = cc
    by false true false same =
        (let no : tooks.Strange ≡ tooks.Unserved = one tooks.Strange tooks.Unserved same in cc (no))

pub client_strayless : (s : Setup) (h : List Event) (host : Host) (epoch : ℕ) → s.kind ≡ Client host epoch
    → (looks s h).strays ≡ []
client_strayless s h host epoch kind = of (looks s h).strays (strays_came s h)
  where
    of : (xs : List Stray) → Every (CameStray s h) xs → xs ≡ []
    of [] all = refl
    of (x ∷ xs) all =
        absurd (client_served s host epoch (looks s (all.0).before) (all.0).from (all.0).message
        (ap (λ (q : Kind). outer_row s q (looks s (all.0).before) (all.0).from (all.0).message) (sym kind)
        ∙ (all.0).row))

-- ---- one poll

-- what a client gives isn't of a call of another
client_apart : (s : Setup) (h : List Event) → FitsSetup s → Legal s h → (to : Host) (bytes : List ℕ)
    → poll_answer s (looks s h) ≡ Some (to, bytes) → (host : Host) (epoch : ℕ) → s.kind ≡ Client host epoch
    → (c : CallName) → AreApart (Client host epoch) (Client c.host c.epoch) → NotOf c (sent host to bytes)
client_apart s h fits legal to bytes is host epoch kind c differ = of (poll_gives s h fits legal to bytes is)
  where
    some_stray : (x : Stray) (xs : List Stray) → [] ≡ x ∷ xs → ⊥
    some_stray x xs none = cc

    item : (p : GivesPlain s (looks s h) to bytes) → GivesItem s (looks s h) to p.message
        → NotOf c (sent host to bytes)
    item p g =
        apart_given s c host to bytes p.message (subst (IsHome host) (sym kind) refl)
        ((gave-mine s (events.Polled (Some (to, bytes)) ∷ h) to bytes p.message fits
        (polled_legal s h to bytes legal is) (inl (refl, refl)) p.read).flag) p.read
        (λ name. (
        let own : OwnName s.kind g.item.name = (next_is s h fits legal g.item g.next).name.own in
        let its : OwnName (Client host epoch) c =
        subst (λ (d : CallName). OwnName (Client host epoch) d)
        (sym (item_name s h fits legal to p.message g) ∙ name)
        (subst (λ (q : Kind). OwnName q g.item.name) kind own) in
        differ (sym its.0, sym its.1)))

    of : GivesPlain s (looks s h) to bytes → NotOf c (sent host to bytes)
    of p =
        ⊎_elim
        (λ (g : GivesStray (looks s h) to p.message). absurd (some_stray g.oldest g.later
        (sym (client_strayless s h host epoch kind) ∙ g.owed)))
        (λ (g : GivesItem s (looks s h) to p.message). item p g) p.owed

-- ---- several clients

module _ (c : CallName) where
  -- a client of another host or epoch
  pub record OtherAt (j : ℕ) (s : Stage) : Type 0 where
    pub node : Node
    pub there : slice_get s.nodes j ≡ Some node
    pub fits : FitsSetup node.setup
    pub legal : Legal node.setup (side j s.history)
    pub epoch : ℕ
    pub kind : node.setup.kind ≡ Client node.host epoch
    pub apart : AreApart (Client node.host epoch) (Client c.host c.epoch)

  -- it stays so where its side stays
  pub other_stays : (j : ℕ) (s t : Stage) → t.nodes ≡ s.nodes → side j t.history ≡ side j s.history → OtherAt j s
      → OtherAt j t
  other_stays j s t nodes same r =
      record {
        node = r.node;
        there = ap (λ (ns : List Node). slice_get ns j) nodes ∙ r.there;
        fits = r.fits;
        legal = subst (Legal r.node.setup) (sym same) r.legal;
        epoch = r.epoch;
        kind = r.kind;
        apart = r.apart;
      }

  -- these nodes were polled out, and gave nothing of the call
  pub record OtherOuts (ns : List ℕ) (p q : Polled) : Type 0 where
    pub gave : List Datagram
    pub then_ : q.given ≡ p.given ++ gave
    pub others : Every (NotOf c) gave
    pub outs : (j : ℕ) (n : Node) → In j ns → slice_get p.stage.nodes j ≡ Some n
        → OutAt n (side j p.stage.history) (side j q.stage.history)
    pub sides : (j : ℕ) → IsNone j ns → side j q.stage.history ≡ side j p.stage.history
    pub moments : (j : ℕ) → moment j q.stage.history ≡ moment j p.stage.history
    pub rest : q.stage ≡ record p.stage { history = q.stage.history }

  -- and then others
  pub record OtherThen (ns ms : List ℕ) (p q : Polled) : Type 0 where
    pub between : Polled
    pub first : OtherOuts ns p between
    pub onward : Made (each polls_out ms) between q

  -- of one poll, and of all of one
  abbrev Gives : List Event → List Event → List Datagram → Type 0
  Gives h later ds = Every (NotOf c) ds

  pub other_outs : (ns ms : List ℕ) (p q : Polled) → AreDistinct ns → ((j : ℕ) → In j ns → OtherAt j p.stage)
      → Made (each polls_out (ns ++ ms)) p q → OtherThen ns ms p q
  other_outs [] ms p q distinct other made =
      record {
        between = p;
        first = record {
          gave = [];
          then_ = sym (append-nil p.given);
          others = tt;
          outs = λ j n there. absurd there;
          sides = λ j none. refl;
          moments = λ j. refl;
          rest = refl;
        };
        onward = made;
      }
  other_outs (k ∷ ns) ms p q distinct other made =
      let b = then_to (polls_out k p) (each polls_out (ns ++ ms)) made.0 q made.1 in
      let r = other k (inl refl) in
      let o = out_to k r.node.host p b.between b.front (ap (option_map (λ (m : Node). m.host)) r.there) b.made in
      let turn = node_turn r.node.host k r.node o.0 b.between.stage Gives (λ h legal none. tt)
      (λ h later to bytes ds legal is rest. (
        client_apart r.node.setup h r.fits legal to bytes is r.node.host r.epoch r.kind c r.apart,
        rest,
      )) p.given p.stage o.2.0 r.there r.legal o.2.1 in
      let nodes : b.between.stage.nodes ≡ p.stage.nodes = ap (λ (u : Stage). u.nodes) turn.out.rest in
      let later = other_outs ns ms b.between q distinct.1 (λ j there. other_stays j p.stage b.between.stage nodes
      (turn.out.others j (λ is. none_in k ns j distinct.0 there (sym is))) (other j (inr there))) (b.rest, b.goes) in
      record {
        between = later.between;
        first = record {
          gave = turn.gave ++ later.first.gave;
          then_ = then_both p.given b.between.given later.between.given turn.gave later.first.gave
              (o.1 ∙ turn.more) later.first.then_;
          others = every-append (NotOf c) turn.gave later.first.gave turn.res later.first.others;
          outs = λ j n there is. outs j n there is b.between.stage later.between.stage r.node r.there turn.out nodes
              (λ i m below at. later.first.outs i m below at) (later.first.sides k distinct.0)
              (λ i below. turn.out.others i (λ is. none_in k ns i distinct.0 below (sym is)));
          sides = λ j none. later.first.sides j none.1 ∙ turn.out.others j none.0;
          moments = λ j. later.first.moments j ∙ turn.out.moments j;
          rest = rest_both p.stage b.between.stage later.between.stage turn.out.rest later.first.rest;
        };
        onward = later.onward;
      }
    where
      outs : (j : ℕ) (n : Node) → In j (k ∷ ns) → slice_get p.stage.nodes j ≡ Some n → (u t : Stage) (node : Node)
          → slice_get p.stage.nodes k ≡ Some node → Out k node p.stage u → u.nodes ≡ p.stage.nodes
          → ((i : ℕ) (m : Node) → In i ns → slice_get u.nodes i
          ≡ Some m → OutAt m (side i u.history) (side i t.history))
          → side k t.history ≡ side k u.history
          → ((i : ℕ) → In i ns → side i u.history ≡ side i p.stage.history)
          → OutAt n (side j p.stage.history) (side j t.history)
      outs j n (inl same) is u t node there out nodes later still others =
          let one : node ≡ n = node_is node n
          (sym there ∙ ap (slice_get p.stage.nodes) (sym same) ∙ is) in
          subst (λ (i : ℕ). OutAt n (side i p.stage.history) (side i t.history)) (sym same)
          (subst (λ (m : Node). OutAt m (side k p.stage.history) (side k t.history)) one
          (subst (λ (h : List Event). OutAt node (side k p.stage.history) h) (sym still) out.at))
      outs j n (inr below) is u t node there out nodes later still others =
          subst (λ (h : List Event). OutAt n h (side j t.history)) (others j below)
          (later j n below (ap (λ (ns : List Node). slice_get ns j) nodes ∙ is))
