-- What the rules answer of the call that a handler finds.
use Rattle.std.proofs.Common.{◌≡◌, ◌≤◌, ℕ, ℤ, Bool, false, List, [], take, Option, Some, None}
use Rattle.std.proofs.Common.{Err, refl, ◌∙◌, ap, sym, subst}
use Rattle.rx_model.specs.declared.answers.CallRead.{CallRead}
use Rattle.rx_model.specs.declared.answers.CallRead.TheVariants as callreads
use Rattle.rx_model.specs.declared.answers.ReadGot.TheVariants as readers
use Rattle.rx_model.specs.declared.answers.ServeRead.{ServeRead}
use Rattle.rx_model.specs.declared.answers.ServeRead.TheVariants as reads
use Rattle.rx_model.specs.declared.answers.ServeRefused.TheVariants as refusals
use Rattle.rx_model.specs.declared.event.Event.TheVariants as events
use Rattle.rx_model.specs.declared.names.CallName.{CallName}
use Rattle.rx_model.specs.Names.{Channel, channel_of}
use Rattle.rx_rules.specs.After.{is_end, read_done}
use Rattle.rx_rules.specs.Classes.{Class}
use Rattle.rx_rules.specs.Life.{Life, is_handled}
use Rattle.rx_rules.specs.Life as lives
use Rattle.rx_rules.specs.Looks.{CallRecord, Looks, call_at, is_call, latest, latest_name}
use Rattle.rx_rules.specs.Received.{read_of}
use Rattle.rx_rules.specs.Rules.{served_by, served_read, served_read_by, served_read_got}
use Rattle.rx_history.proofs.Dimensions.DimsEvents.{read_dims}
use Rattle.rx_recvwin.specs.Window.{given_count, tells_end}
use Rattle.rx_node.specs.Mirrors.{IsChannel, Mirrors}
use Rattle.rx_node.specs.Node.{KeepsNode, NodeState}
use Rattle.rx_node.proofs.IdleEvents.{read_nothing}
use Rattle.rx_server.specs.Handling.{IsFound}
use Rattle.rx_server.specs.Server.{ServerState, Serves, handler_count}
use Rattle.rx_server.proofs.RestLaws.{read_rests}
use Rattle.rx_server.proofs.Quiet.{Quiet}
use Rattle.rx_server.proofs.Serving.{SameParts, parts_stay}

-- ---- a call that was found

-- it is its channel's latest
pub found_latest : (l : Looks) (c : CallName) (key : ℕ) (life : Life) → (f : IsFound l c key life)
    → latest l (channel_of c) ≡ Some f.call
found_latest l c key life f = ap (λ (d : CallName). call_at l d) f.latest ∙ f.there

-- nothing changes
pub same_parts : (n : NodeState) → SameParts n n
same_parts n = record { kind = refl; limits = refl; prompt = refl; secret = refl; conns = refl }

-- a call without a handler isn't served
pub refuses : {X : Type 0} (life : Life) (ended : Bool) (done : X) → is_handled life ≡ false
    → served_by life ended done ≡ Err refusals.NotOpen
refuses lives.Calling ended done none = refl
refuses (lives.Ended end) ended done none = refl
refuses lives.Waiting ended done none = refl
refuses lives.Accepted ended done none = absurd (cc (none))
refuses lives.Finished ended done none = refl
refuses (lives.Broken code) ended done none = absurd (cc (none))
refuses (lives.Over code) ended done none = refl

-- ---- a read

served-end : (got : CallRead) → tells_end got ≡ is_end (readers.Server (served_read_got got))
served-end (callreads.Got n) = refl
served-end callreads.End = refl
served-end callreads.NotYet = refl

-- it gives as many bytes
pub served_count : (got : CallRead) → given_count got ≡ handler_count (served_read_got got)
served_count (callreads.Got n) = refl
served_count callreads.End = refl
served_count callreads.NotYet = refl

-- nor is it read
read-refused : (o : Option CallRecord) (max : ℕ) → is_call (λ k. is_handled k.life) o ≡ false
    → (reads.NotOpen, []) ≡ served_read o max
read-refused None max none = refl
read-refused (Some k) max none = of k.life none
  where
    of : (life : Life) → is_handled life ≡ false
        → (reads.NotOpen, []) ≡ served_read_by life (read_of k.looks.received max)
    of lives.Calling none = refl
    of (lives.Ended end) none = refl
    of lives.Waiting none = refl
    of lives.Accepted none = absurd (cc (none))
    of lives.Finished none = refl
    of (lives.Broken code) none = absurd (cc (none))
    of (lives.Over code) none = refl

module _ (class : List ℕ → Class) (sv : ServerState) (c : CallName) (max : ℕ) (some : 1 ≤ max) where
  -- of a call that is open
  pub read_open : (new : NodeState) (key : ℕ) (got : CallRead) (to : List ℕ) → KeepsNode sv.node new
      → ((l : Looks) → Serves class sv l → IsFound l c key lives.Accepted)
      → ((l : Looks) (ch : Channel) (k : CallRecord) → Mirrors class sv.node l → IsChannel l key ch
      → latest l ch ≡ Some k
      → (got, take (given_count got) to) ≡ read_of k.looks.received max)
      → ((l : Looks) (ch : Channel) → Mirrors class sv.node l → IsChannel l key ch
      → Mirrors class new (read_done (latest_name l ch) (tells_end got) (take (given_count got) to) l))
      → Quiet class sv new (events.HasRead c max (readers.Server (served_read_got got))
      (take (handler_count (served_read_got got)) to))
  read_open new key got to kept found answered steps =
      record {
        parts = parts_stay sv.node new kept;
        allowed = λ l serves. (some, allows l serves);
        mirrors = λ l serves. subst (λ (m : Looks). Mirrors class new m)
            (λ i. read_done ((found l serves).latest i) (served-end got i) (take (served_count got i) to) l)
            (steps l (channel_of c) serves.mirrors (found l serves).channel);
        dims = λ l. read_dims c (is_end (readers.Server (served_read_got got)))
            (take (handler_count (served_read_got got)) to) l;
        rests = λ l. read_rests c (is_end (readers.Server (served_read_got got)))
            (take (handler_count (served_read_got got)) to) l;
      }
    where
      allows : (l : Looks) → Serves class sv l
          → (served_read_got got, take (handler_count (served_read_got got)) to) ≡ served_read (call_at l c) max
      allows l serves =
          let f = found l serves in
          ap (λ (n : ℕ). (served_read_got got, take n to)) (sym (served_count got))
          ∙ ap (λ (both : CallRead × List ℕ). (served_read_got both.0, both.1))
          (answered l (channel_of c) f.call serves.mirrors f.channel (found_latest l c key lives.Accepted f))
          ∙ sym (ap (λ (o : Option CallRecord). served_read o max) f.there
          ∙ ap (λ (life : Life). served_read_by life (read_of f.call.looks.received max)) f.life_is)

  -- of another call
  read-idle : (got : ServeRead) → is_end (readers.Server got) ≡ false
      → ((l : Looks) → Serves class sv l → (got, []) ≡ served_read (call_at l c) max)
      → Quiet class sv sv.node (events.HasRead c max (readers.Server got) [])
  read-idle got none answers =
      record {
        parts = same_parts sv.node;
        allowed = λ l serves. (some, answers l serves);
        mirrors = λ l serves. subst (λ (m : Looks). Mirrors class sv.node m)
            (sym (ap (λ (end : Bool). read_done c end [] l) none ∙ read_nothing c l)) serves.mirrors;
        dims = λ l. read_dims c (is_end (readers.Server got)) [] l;
        rests = λ l. read_rests c (is_end (readers.Server got)) [] l;
      }

  -- of one that broke
  pub read_broken : (key : ℕ) (code : ℤ) → ((l : Looks) → Serves class sv l → IsFound l c key (lives.Broken code))
      → Quiet class sv sv.node (events.HasRead c max (readers.Server (reads.Gone code)) [])
  read_broken key code found =
      read-idle (reads.Gone code) refl
      (λ l serves. (
      let f = found l serves in
      sym (ap (λ (o : Option CallRecord). served_read o max) f.there
      ∙ ap (λ (life : Life). served_read_by life (read_of f.call.looks.received max)) f.life_is)))

  -- of one that isn't open
  pub read_closed : ((l : Looks) → Serves class sv l → is_call (λ k. is_handled k.life) (call_at l c) ≡ false)
      → Quiet class sv sv.node (events.HasRead c max (readers.Server reads.NotOpen) [])
  read_closed none = read-idle reads.NotOpen refl (λ l serves. read-refused (call_at l c) max (none l serves))
