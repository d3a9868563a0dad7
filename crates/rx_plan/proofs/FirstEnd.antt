-- When a client's call ended: until then it had no end.
use Rattle.std.proofs.Common.{◌≡◌, ◌==◌, ◌++◌, cond, Bool, true, false, List, [], ◌∷◌, Option, Some, None}
use Rattle.std.proofs.Common.{refl, ◌∙◌, ap, sym, subst}
use Rattle.rx_model.specs.declared.answers.End.{End}
use Rattle.rx_model.specs.declared.event.Noted.{Noted}
use Rattle.rx_model.specs.declared.names.CallName.{CallName}
use Rattle.rx_rules.specs.After.{looks}
use Rattle.rx_rules.specs.Rules.{Legal}
use Rattle.rx_law.specs.Promises.{at_client}
use Rattle.rx_history.specs.Sides.{side}
use Rattle.rx_history.specs.Streams.{end_at}
use Rattle.rx_law.specs.Worlds.{TwoEnds}
use Rattle.rx_law.proofs.Joint.{Fed, fed-before}
use Rattle.rx_plan.proofs.ClientEnds.{end_stays}

-- the event that ended it
pub record FirstEnd (x : TwoEnds) (c : CallName) (end : End) (h : List Noted) : Type 0 where
  pub later : List Noted
  pub event : Noted
  pub before : List Noted
  pub is : h ≡ later ++ event ∷ before
  pub here : (event.node == x.client) ≡ true
  pub unended : end_at (at_client x before) c ≡ None
  pub now : end_at (at_client x (event ∷ before)) c ≡ Some end

pub first_end : (x : TwoEnds) (h : List Noted) (c : CallName) (end : End) → Fed x h
    → end_at (at_client x h) c ≡ Some end → FirstEnd x c end h
first_end x [] c end fed is = absurd cc
first_end x (e ∷ h) c end fed is =
    of (e.node == x.client) refl is (λ before. first_end x h c end (fed-before x e h fed) before)
  where
    after : FirstEnd x c end h → FirstEnd x c end (e ∷ h)
    after f =
        record {
          later = e ∷ f.later;
          event = f.event;
          before = f.before;
          is = ap (λ (g : List Noted). e ∷ g) f.is;
          here = f.here;
          unended = f.unended;
          now = f.now;
        }

    own : (e.node == x.client) ≡ true → Legal x.client_setup (e.event ∷ side x.client h)
    own here =
        subst (λ (b : Bool). Legal x.client_setup (cond b (e.event ∷ side x.client h) (side x.client h))) here
        fed.client_legal

    known : (e.node == x.client) ≡ true → end_at (looks x.client_setup (e.event ∷ side x.client h)) c ≡ Some end
        → (end_at (at_client x h) c ≡ Some end → FirstEnd x c end h)
        → (o : Option End) → end_at (at_client x h) c ≡ o → FirstEnd x c end (e ∷ h)
    known here is more None none =
        record {
          later = [];
          event = e;
          before = h;
          is = refl;
          here = here;
          unended = none;
          now = subst (λ (b : Bool). end_at (looks x.client_setup (cond b (e.event ∷ side x.client h)
              (side x.client h))) c ≡ Some end) (sym here) is;
        }
    known here is more (Some other) at =
        after (more (at ∙ sym (end_stays x.client_setup x.connection.host x.connection.epoch fed.client_kind
        fed.client_fits e.event (side x.client h) c other (own here) at) ∙ is))

    of : (b : Bool) → (e.node == x.client) ≡ b
        → end_at (looks x.client_setup (cond b (e.event ∷ side x.client h) (side x.client h))) c ≡ Some end
        → (end_at (at_client x h) c ≡ Some end → FirstEnd x c end h) → FirstEnd x c end (e ∷ h)
    of true here is more = known here is more (end_at (at_client x h) c) refl
    of false other is more = after (more is)
