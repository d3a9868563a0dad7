-- What was handed in to one node, driven, is what a plan's node takes.
use Rattle.std.proofs.Common.{◌≡◌, ◌⊎◌, ℕ, List, [], ◌∷◌, ◌++◌, Option, refl, sym, subst, ap, inl, inr, option_map}
use Rattle.rx_drive.specs.Events as handed
use Rattle.rx_drive.specs.Nodes.{node_stages}
use Rattle.rx_drive.specs.Ran as ran
use Rattle.rx_drive.specs.Ran.{Fault, wants_memory, wire_failed}
use Rattle.rx_drive.specs.Tells as tells
use Rattle.rx_drive.specs.Tells.{Made, Step}
use Rattle.rx_drive.specs.declared.stop.Stop.{Stop as DriveStop}
use Rattle.rx_events.specs.Events.{IsTaken}
use Rattle.rx_history.specs.Sides.{side}
use Rattle.rx_joint.specs.Nodes.{NodesState}
use Rattle.rx_model.specs.declared.event.Event.{Event}
use Rattle.rx_model.specs.declared.event.Noted.{Noted}
use Rattle.rx_model.specs.declared.names.Host.{Host}
use Rattle.rx_plan.specs.Parts.{Part, Then, each, ends}
use Rattle.rx_plan.specs.Stages.{Stage, event, with_event}
use Rattle.rx_rules.specs.After.{looks}
use Rattle.rx_rules.specs.Rules.{Allowed}
use Rattle.rx_rules.specs.Setup.{Setup}
use Rattle.rx_run.specs.Parts as run
use Rattle.rx_run.specs.Parts.{Came, Cut, Ended, Endless, To, cut_behind, makes, not_made}
use Rattle.rx_wire.specs.Turns.{noted}
use Rattle.rx_stage.specs.Driving.{plan_stop}
use Rattle.rx_stage.specs.Shown.{PlaysNodes, Shows}
use Rattle.rx_stage.specs.Tells.{Told, event_line}
use Rattle.rx_stage.specs.declared.stop.Stop.{Stop}
use Rattle.rx_stage.proofs.Driving.{Behind, IsAt, allowed_at, at_behind, at_lent, behind_more, behind_none, behind_one}
use Rattle.rx_stage.proofs.Driving.{lent_shown, shown_lent}
use Rattle.rx_stage.proofs.Lending.{Lent}
use Rattle.rx_stage.proofs.Making.{event_cut}
use Rattle.rx_stage.proofs.Plain.{Becomes, events_both, events_of, plain, ran_plan}

-- a part over one node
abbrev Handed : Type 1
Handed = run.Part Step Fault (List Event)

-- what a part of one node came to, a part of a plan comes to at a stage, and the node's side is that then
abbrev Reaches : ℕ → Stage → Part Stage → List Step → Came Fault (List Event) → Type 0
Reaches node s part ss (To u) =
    (t : List Noted) × part (events_of ss) (To (record s { history = t })) × Behind node s t u
Reaches node s part ss (Ended why) = ⊥
Reaches node s part ss Cut = part (events_of ss) Cut
Reaches node s part ss Endless = part (events_of ss) Endless

either : {X : Type 0} (x y : X) → (x ≡ y) ⊎ (x ≡ y) → x ≡ y
either x y (inl is) = is
either x y (inr is) = is

-- nothing was made
none_reaches : (node : ℕ) (s : Stage) (h : List Event) (ss : List Step) (came : Came Fault (List Event))
    → Behind node s s.history h → run.ends (To h) ss came → Reaches node s (ends (To s)) ss came
none_reaches node s h ss came behind (none, inl is) =
    subst (Reaches node s (ends (To s)) ss) (sym is) (s.history, (ap events_of none, inl refl), behind)
none_reaches node s h ss came behind (none, inr is) =
    subst (Reaches node s (ends (To s)) ss) (sym is) (ap events_of none, inr refl)

-- one event
event_reaches : (setup : Setup) (node : ℕ) (is : Event → Type 0) (s : Stage) (h : List Event) (ss : List Step)
    (came : Came Fault (List Event)) → IsAt setup node s h → handed.event (node_stages setup) node is h ss came
    → Reaches node s (event node is s) ss came
event_reaches setup node is s h ss came at r =
    subst (λ (es : List Step). Reaches node s (event node is s) es came) (sym r.are)
    (of r.front r.rest r.came r.made r.goes)
  where
    of : (front rest : List Step) (x : Came Fault Event)
        → run.One (λ e. Made (noted node e)) (λ e. is e × Allowed setup (looks setup h) e) front x
        → run.goes_on (λ e. run.ends (To (e ∷ h))) x rest came
        → Reaches node s (event node is s) (front ++ rest) came
    of front rest x not_made (none, same) =
        subst (Reaches node s (event node is s) rest) (sym (either came Cut same))
        (subst (λ (es : List Step). event node is s (events_of es) Cut) (sym none) (event_cut node is s))
    of front rest x (cut_behind e it) (none, same) =
        subst (Reaches node s (event node is s) (Made (noted node e) ∷ rest)) (sym (either came Cut same))
        (subst (λ (es : List Step). event node is s (noted node e ∷ events_of es) Cut) (sym none)
        (record {
          front = noted node e ∷ [];
          rest = [];
          are = refl;
          came = Cut;
          made = cut_behind e (it.0, allowed_at setup node s h e at it.1);
          goes = (refl, inl refl);
        }))
    of front rest x (makes e it) (none, inl same) =
        subst (Reaches node s (event node is s) (Made (noted node e) ∷ rest)) (sym same) (
          noted node e ∷ s.history,
          subst (λ (es : List Step). event node is s (noted node e ∷ events_of es) (To (with_event node e s)))
              (sym none)
              (record {
                front = noted node e ∷ [];
                rest = [];
                are = refl;
                came = To e;
                made = makes e (it.0, allowed_at setup node s h e at it.1);
                goes = (refl, inl refl);
              }),
          behind_one setup node s h e at,
        )
    of front rest x (makes e it) (none, inr same) =
        subst (Reaches node s (event node is s) (Made (noted node e) ∷ rest)) (sym same)
        (subst (λ (es : List Step). event node is s (noted node e ∷ events_of es) Cut) (sym none)
        (record {
          front = noted node e ∷ [];
          rest = [];
          are = refl;
          came = To e;
          made = makes e (it.0, allowed_at setup node s h e at it.1);
          goes = (refl, inr refl);
        }))

-- one part and then another
then_reaches : (node : ℕ) (s : Stage) (first : Handed) (part : Part Stage) (next : List Event → Handed)
    (more : Stage → Part Stage) (ss : List Step) (came : Came Fault (List Event))
    → ((es : List Step) (c : Came Fault (List Event)) → first es c → Reaches node s part es c)
    → ((t : List Noted) (u : List Event) (es : List Step) (c : Came Fault (List Event)) → Behind node s t u
    → next u es c → Reaches node (record s { history = t }) (more (record s { history = t })) es c)
    → run.Then first next ss came → Reaches node s (Then part more) ss came
then_reaches node s first part next more ss came begins goes_so r =
    subst (λ (es : List Step). Reaches node s (Then part more) es came) (sym r.are)
    (of r.front r.rest r.came r.goes (begins r.front r.came r.made))
  where
    on : (front rest : List Step) (t : List Noted) (u : List Event) → Behind node s t u
        → part (events_of front) (To (record s { history = t })) → (c : Came Fault (List Event))
        → Reaches node (record s { history = t }) (more (record s { history = t })) rest c
        → Reaches node s (Then part more) (front ++ rest) c
    on front rest t u behind made (To u2) (t2, made2, behind2) = (
      t2,
      record {
        front = events_of front;
        rest = events_of rest;
        are = events_both front rest;
        came = To (record s { history = t });
        made = made;
        goes = made2;
      },
      behind_more node s t t2 u u2 behind behind2,
    )
    on front rest t u behind made (Ended why) none = none
    on front rest t u behind made Cut made2 =
        record {
          front = events_of front;
          rest = events_of rest;
          are = events_both front rest;
          came = To (record s { history = t });
          made = made;
          goes = made2;
        }
    on front rest t u behind made Endless made2 =
        record {
          front = events_of front;
          rest = events_of rest;
          are = events_both front rest;
          came = To (record s { history = t });
          made = made;
          goes = made2;
        }

    of : (front rest : List Step) (x : Came Fault (List Event)) → run.goes_on next x rest came
        → Reaches node s part front x → Reaches node s (Then part more) (front ++ rest) came
    of front rest (To u) goes (t, made, behind) = on front rest t u behind made came (goes_so t u rest came behind goes)
    of front rest (Ended why) goes none = absurd none
    of front rest Cut (none, same) made =
        subst (Reaches node s (Then part more) (front ++ rest)) (sym (either came Cut same))
        (record {
          front = events_of front;
          rest = events_of rest;
          are = events_both front rest;
          came = Cut;
          made = made;
          goes = (ap events_of none, inl refl);
        })
    of front rest Endless (none, inl same) made =
        subst (Reaches node s (Then part more) (front ++ rest)) (sym same)
        (record {
          front = events_of front;
          rest = events_of rest;
          are = events_both front rest;
          came = Endless;
          made = made;
          goes = (ap events_of none, inl refl);
        })
    of front rest Endless (none, inr same) made =
        subst (Reaches node s (Then part more) (front ++ rest)) (sym same)
        (record {
          front = events_of front;
          rest = events_of rest;
          are = events_both front rest;
          came = Endless;
          made = made;
          goes = (ap events_of none, inr refl);
        })

-- datagrams that it takes, one after another
takes_reach : (setup : Setup) (node : ℕ) (from : Host) (bs : List (List ℕ)) (s : Stage) (h : List Event)
    (ss : List Step) (came : Came Fault (List Event)) → IsAt setup node s h
    → handed.takes_all (node_stages setup) node from bs h ss came
    → Reaches node s (each (λ b. event node (IsTaken from b)) bs s) ss came
takes_reach setup node from [] s h ss came at r = none_reaches node s h ss came (behind_none setup node s h at) r
takes_reach setup node from (b ∷ bs) s h ss came at r =
    then_reaches node s (handed.event (node_stages setup) node (IsTaken from b) h) (event node (IsTaken from b) s)
    (handed.takes_all (node_stages setup) node from bs) (each (λ x. event node (IsTaken from x)) bs) ss came
    (λ es c made. event_reaches setup node (IsTaken from b) s h es c at made)
    (λ t u es c behind made. takes_reach setup node from bs (record s { history = t }) u es c
    (at_behind setup node s h t u at behind) made) r

module _ (first : List Event → Handed) (part : Stage → Part Stage) (old new : NodesState) (node : ℕ) (setup : Setup)
    (stood stands : List Event → Type 0) (stop : Option DriveStop) (result : Option Stop) (a b : tells.Told) where
  -- what was driven at the node was played, as far as nodes go
  nodes_driven : result ≡ option_map plan_stop stop
      → ((s : Stage) (h : List Event) (ss : List Step) (came : Came Fault (List Event)) → IsAt setup node s h
      → first h ss came → Reaches node s (part s) ss came)
      → Lent old new node setup stood stands
      → ((h : List Event) → stood h → ran.Ran event_line (first h) stands stop a b)
      → PlaysNodes part old new result (plain a) (plain b)
  nodes_driven ends reaches lent driven m is s shown =
      ran_plan (first (side node s.history)) stands (part s) (Shows (record m { nodes = new })) stop result a b ends
      (λ ss came made. of ss came (reaches s (side node s.history) ss came
      (at_lent m new node setup stood stands here s shown) made))
      (driven (side node s.history) (here.before s.history shown.standing))
    where
      here : Lent m.nodes new node setup stood stands
      here = lent_shown old new node setup stood stands m is lent

      of : (ss : List Step) (came : Came Fault (List Event)) → Reaches node s (part s) ss came
          → Becomes stands (part s) (Shows (record m { nodes = new })) ss came
      of ss (To u) (t, made, behind) = λ there. (
        record s { history = t },
        made,
        shown_lent m new node setup stood stands here s shown t u behind there,
      )
      of ss (Ended wants_memory) none = absurd none
      of ss (Ended wire_failed) none = none
      of ss Cut made = made
      of ss Endless made = made

module _ (is_it : Event → Type 0) (old new : NodesState) (node : ℕ) (setup : Setup) (stood stands : List Event → Type 0)
    (stop : Option DriveStop) (result : Option Stop) (a b : tells.Told) where
  -- one event of it
  pub event_driven : result ≡ option_map plan_stop stop → Lent old new node setup stood stands
      → ((h : List Event) → stood h
      → ran.Ran event_line (handed.event (node_stages setup) node is_it h) stands stop a b)
      → PlaysNodes (event node is_it) old new result (plain a) (plain b)
  event_driven ends lent driven =
      nodes_driven (handed.event (node_stages setup) node is_it) (event node is_it) old new node setup stood stands stop
      result a b ends (λ s h ss came at made. event_reaches setup node is_it s h ss came at made) lent driven

module _ (from : Host) (bs : List (List ℕ)) (old new : NodesState) (node : ℕ) (setup : Setup)
    (stood stands : List Event → Type 0) (stop : Option DriveStop) (result : Option Stop) (a b : tells.Told) where
  -- datagrams that it takes
  pub takes_driven : result ≡ option_map plan_stop stop → Lent old new node setup stood stands
      → ((h : List Event) → stood h
      → ran.Ran event_line (handed.takes_all (node_stages setup) node from bs h) stands stop a b)
      → PlaysNodes (each (λ x. event node (IsTaken from x)) bs) old new result (plain a) (plain b)
  takes_driven ends lent driven =
      nodes_driven (handed.takes_all (node_stages setup) node from bs) (each (λ x. event node (IsTaken from x)) bs)
      old new node setup stood stands stop result a b ends
      (λ s h ss came at made. takes_reach setup node from bs s h ss came at made) lent driven

-- ---- methods

-- the same is told, as the code has it
pub nodes_seen : (part : Stage → Part Stage) (old new : NodesState) (stop : Option Stop) (a b c : Told) → c ≡ b
    → PlaysNodes part old new stop a b → PlaysNodes part old new stop a c
nodes_seen part old new stop a b c same plays =
    subst (λ (t : Told). PlaysNodes part old new stop a t) (sym same) plays

module _ (node : ℕ) (from : Host) (xs ys : List ℕ) (old new : NodesState) (stop : Option Stop) (a b c : Told) where
  -- these bytes are taken, and the same is told, as the code has them
  pub bytes_taken : xs ≡ ys → c ≡ b → PlaysNodes (event node (IsTaken from xs)) old new stop a b
      → PlaysNodes (event node (IsTaken from ys)) old new stop a c
  bytes_taken same told plays =
      nodes_seen (event node (IsTaken from ys)) old new stop a b c told
      (subst (λ bs. PlaysNodes (event node (IsTaken from bs)) old new stop a b) same plays)
