-- Between two histories of a node a message of a call came for which there was no place.
use Rattle.std.proofs.Common.{◌≡◌, ◌++◌, List, ◌∷◌, ◌∙◌, ap, sym, append_assoc}
use Rattle.rx_model.specs.declared.answers.Took.TheVariants as tooks
use Rattle.rx_model.specs.declared.event.Event.{Event}
use Rattle.rx_model.specs.declared.event.Noted.{Noted}
use Rattle.rx_model.specs.declared.names.CallName.{CallName}
use Rattle.rx_rules.specs.Setup.{Setup}
use Rattle.rx_wire.specs.Turns.{noted}
use Rattle.rx_closing.specs.Silence.{CameWith}

-- an event of a node between two histories with which a message of a call came for which there was no place
pub record CameFull (s : Setup) (c : CallName) (before behind : List Noted) : Type 0 where
  pub later : List Noted
  pub event : Event
  pub mid : List Noted
  pub are : behind ≡ later ++ (noted 0 event ∷ (mid ++ before))
  pub comes : CameWith s (λ got. got ≡ tooks.Full) c event

-- it stands between earlier and later ones too
pub came_since : (s : Setup) (c : CallName) (before between behind first : List Noted) → between ≡ first ++ before
    → CameFull s c between behind → CameFull s c before behind
came_since s c before between behind first one f =
    record {
      later = f.later;
      event = f.event;
      mid = f.mid ++ first;
      are = f.are
          ∙ ap (λ (es : List Noted). f.later ++ (noted 0 f.event ∷ es))
          (ap (λ (es : List Noted). f.mid ++ es) one ∙ sym (append_assoc f.mid first before));
      comes = f.comes;
    }

pub came_till : (s : Setup) (c : CallName) (before between behind second : List Noted) → behind ≡ second ++ between
    → CameFull s c before between → CameFull s c before behind
came_till s c before between behind second two f =
    record {
      later = second ++ f.later;
      event = f.event;
      mid = f.mid;
      are = two
          ∙ ap (λ (es : List Noted). second ++ es) f.are
          ∙ sym (append_assoc second f.later (noted 0 f.event ∷ (f.mid ++ before)));
      comes = f.comes;
    }
