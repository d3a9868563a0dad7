-- What a finish answers.
use Rattle.std.proofs.Common.{◌≡◌, ◌||◌, ℕ, ℤ, not, Bool, true, false, List, Option, Some, Result, Ok, Err}
use Rattle.std.proofs.Common.{refl, ◌∙◌, ap, sym, subst}
use Rattle.rx_model.specs.declared.answers.ServeRefused.{ServeRefused}
use Rattle.rx_model.specs.declared.answers.ServeRefused.TheVariants as refusals
use Rattle.rx_model.specs.declared.event.Event.TheVariants as events
use Rattle.rx_model.specs.declared.names.CallName.{CallName}
use Rattle.rx_model.specs.Names.{Channel, channel_of}
use Rattle.rx_model.specs.Spelling.{IsCode}
use Rattle.rx_rules.specs.After.{finish_done, is_zero, looks}
use Rattle.rx_rules.specs.Classes.{Class}
use Rattle.rx_rules.specs.Life.{Life, after_gone}
use Rattle.rx_rules.specs.Life as lives
use Rattle.rx_rules.specs.Looks.{CallRecord, Looks, call_at, latest, latest_name, on_life}
use Rattle.rx_rules.specs.Rules.{served_by, served_finish}
use Rattle.rx_history.proofs.Dimensions.DimsEvents.{finish_dims}
use Rattle.rx_node.specs.Mirrors.{IsChannel, Mirrors}
use Rattle.rx_node.specs.Node.{KeepsNode, NodeState, setup_of}
use Rattle.rx_server.specs.Handling.{IsFound}
use Rattle.rx_server.specs.Server.{Answered, IsServerOf, ServerState, Serves}
use Rattle.rx_server.proofs.Handling.{found_latest, same_parts}
use Rattle.rx_server.proofs.RestLaws.{finish_rests}
use Rattle.rx_server.proofs.Quiet.{Quiet, served_allows}
use Rattle.rx_server.proofs.Serving.{answered_by, parts_stay}

abbrev finished_well : Result (Unit {0}) ServeRefused
finished_well = Ok tt

-- ---- of an open call

-- what the rules answer, by whether all was read and by the code
pub finish_of : (l : Looks) (c : CallName) (key : ℕ) (code : ℤ) → (f : IsFound l c key lives.Accepted)
    → served_finish (call_at l c) code
    ≡ served_by lives.Accepted (f.call.looks.received.ended || not (is_zero code)) tt
finish_of l c key code f =
    ap (λ (o : Option CallRecord). served_finish o code) f.there
    ∙ ap (λ (x : Life). served_by x (f.call.looks.received.ended || not (is_zero code)) tt) f.life_is

-- all was read
pub full_read : (b : Bool) (code : ℤ) → b ≡ true → (b || not (is_zero code)) ≡ true
full_read b code is = ap (λ (a : Bool). a || not (is_zero code)) is

-- or the code isn't 0
pub full_code : (b : Bool) (code : ℤ) → is_zero code ≡ false → (b || not (is_zero code)) ≡ true
full_code true code other = refl
full_code false code other = ap not other

-- then it may be finished
pub may_finish : (l : Looks) (c : CallName) (key : ℕ) (code : ℤ) → (f : IsFound l c key lives.Accepted)
    → (f.call.looks.received.ended || not (is_zero code)) ≡ true → finished_well ≡ served_finish (call_at l c) code
may_finish l c key code f full =
    sym (finish_of l c key code f ∙ ap (λ (b : Bool). served_by lives.Accepted b tt) full)

module _ (class : List ℕ → Class) (old new : ServerState) (c : CallName) (key : ℕ) (code : ℤ) where
  -- what it answers then
  pub finish_answers : IsCode code → IsServerOf old.node.kind old.service
      → setup_of class new.node ≡ setup_of class old.node
      → ((l : Looks) → Serves class old l → IsFound l c key lives.Accepted)
      → ((l : Looks) → Serves class old l → (f : IsFound l c key lives.Accepted)
      → (f.call.looks.received.ended || not (is_zero code)) ≡ true)
      → (told : ℤ) → told ≡ code
      → ((l : Looks) (d : CallName) → Serves class old l → IsFound l d key lives.Accepted
      → finished_well ≡ served_finish (call_at l d) told → Serves class new (finish_done d told finished_well l))
      → Answered class old new (events.Finished c code finished_well)
  finish_answers fits server same found full told is steps =
      answered_by class old new (events.Finished c code finished_well) same
      (λ h stands. (
      let l : Looks = looks (setup_of class old.node) h in
      let f = found l stands.serves in
      let may = may_finish l c key code f (full l stands.serves f) in (
        served_allows old class l (events.Finished c code finished_well) server (fits, may),
        subst (λ (z : ℤ). Serves class new (finish_done c z finished_well l)) is
            (steps l c stands.serves f (subst (λ (z : ℤ). finished_well ≡ served_finish (call_at l c) z) (sym is) may)),
      )))

module _ (class : List ℕ → Class) (sv : ServerState) (c : CallName) (key : ℕ) (code : ℤ) (fits : IsCode code) where
  -- ---- of one whose request wasn't read to its end

  pub finish_unread : is_zero code ≡ true → ((l : Looks) → Serves class sv l → IsFound l c key lives.Accepted)
      → ((l : Looks) (ch : Channel) (k : CallRecord) → Mirrors class sv.node l → IsChannel l key ch
      → latest l ch ≡ Some k
      → false ≡ k.looks.received.ended)
      → Quiet class sv sv.node (events.Finished c code (Err refusals.Unread))
  finish_unread is found unread =
      record {
        parts = same_parts sv.node;
        allowed = λ l serves. (fits, answers l serves);
        mirrors = λ l serves. serves.mirrors;
        dims = λ l. finish_dims c code (Err refusals.Unread) l;
        rests = λ l. finish_rests c code (Err refusals.Unread) l;
      }
    where
      answers : (l : Looks) → Serves class sv l → Err refusals.Unread ≡ served_finish (call_at l c) code
      answers l serves =
          let f = found l serves in
          let ended = unread l (channel_of c) f.call serves.mirrors f.channel (found_latest l c key lives.Accepted f) in
          sym (finish_of l c key code f ∙ (λ i. served_by lives.Accepted (sym ended i || not (is i)) tt))

  -- ---- of one that broke

  pub finish_broken : (new : NodeState) (told : ℤ) → KeepsNode sv.node new
      → ((l : Looks) → Serves class sv l → IsFound l c key (lives.Broken told))
      → ((l : Looks) (ch : Channel) → Mirrors class sv.node l → IsChannel l key ch
      → Mirrors class new (on_life (latest_name l ch) after_gone l))
      → Quiet class sv new (events.Finished c code (Err (refusals.Gone told)))
  finish_broken new told kept found steps =
      record {
        parts = parts_stay sv.node new kept;
        allowed = λ l serves. (
            let f = found l serves in (
              fits,
              sym (ap (λ (o : Option CallRecord). served_finish o code) f.there
                  ∙ ap (λ (x : Life). served_by x (f.call.looks.received.ended || not (is_zero code)) tt) f.life_is),
            ));
        mirrors = λ l serves. (
            let f = found l serves in
            subst (λ (d : CallName). Mirrors class new (on_life d after_gone l)) f.latest
            (steps l (channel_of c) serves.mirrors f.channel));
        dims = λ l. finish_dims c code (Err (refusals.Gone told)) l;
        rests = λ l. finish_rests c code (Err (refusals.Gone told)) l;
      }
