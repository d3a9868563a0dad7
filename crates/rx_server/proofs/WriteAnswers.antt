-- What a write answers.
use Rattle.std.proofs.Common.{◌≡◌, ◌≤◌, ℕ, ℤ, min, Bool, true, false, List, [], length, take}
use Rattle.std.proofs.Common.{Option, Some, None, Result, Ok, Err, refl, ◌∙◌, ap, sym, subst, arith}
use Rattle.std.proofs.lemmas.List.{length-take}
use Rattle.rx_model.specs.declared.answers.ServeRefused.{ServeRefused}
use Rattle.rx_model.specs.declared.answers.ServeRefused.TheVariants as refusals
use Rattle.rx_model.specs.declared.answers.WroteGot.TheVariants as writers
use Rattle.rx_model.specs.declared.event.Event.TheVariants as events
use Rattle.rx_model.specs.declared.names.CallName.{CallName}
use Rattle.rx_model.specs.Message.{IsBytes}
use Rattle.rx_model.specs.Names.{Channel, channel_of}
use Rattle.rx_rules.specs.CallLooks.{after_write}
use Rattle.rx_rules.specs.Classes.{Class}
use Rattle.rx_rules.specs.Life.{Life, is_handled}
use Rattle.rx_rules.specs.Life as lives
use Rattle.rx_rules.specs.Looks.{CallRecord, Looks, call_at, is_call, latest, latest_name, on_looks}
use Rattle.rx_rules.specs.Rules.{served_by, served_write}
use Rattle.rx_rules.specs.Setup.{Setup}
use Rattle.rx_rules.specs.Slots.{room}
use Rattle.rx_history.proofs.Dimensions.Dims.{dims_looks}
use Rattle.rx_node.specs.Mirrors.{IsChannel, Mirrors}
use Rattle.rx_node.specs.Node.{KeepsNode, NodeState, setup_of}
use Rattle.rx_node.proofs.Arguments.{take_bytes}
use Rattle.rx_node.proofs.IdleEvents.{write_nothing}
use Rattle.rx_server.specs.Handling.{IsFound}
use Rattle.rx_server.specs.Server.{ServerState, Serves}
use Rattle.rx_server.proofs.Handling.{found_latest, refuses, same_parts}
use Rattle.rx_server.proofs.Quiet.{Quiet}
use Rattle.rx_server.proofs.Serving.{parts_stay}
use Rattle.rx_history.proofs.Fit.FitCall.{none-said}

-- ---- bytes

-- as many as there are
taken-all : (n : ℕ) (xs : List ℕ) → n ≤ length xs → length (take n xs) ≡ n
taken-all n xs low = (let size = length-take n xs in omega arith)

-- ---- of a call that is found

-- what the rules answer of one that is accepted
write-of : (s : Setup) (l : Looks) (c : CallName) (key offered : ℕ) → (f : IsFound l c key lives.Accepted)
    → served_write s l (call_at l c) offered
    ≡ served_by lives.Accepted f.call.looks.received.ended (min offered (room s l f.call.looks))
write-of s l c key offered f =
    ap (λ (o : Option CallRecord). served_write s l o offered) f.there
    ∙ ap (λ (x : Life). served_by x f.call.looks.received.ended (min offered (room s l f.call.looks))) f.life_is

-- of one that has no handler
write-refused : (s : Setup) (l : Looks) (o : Option CallRecord) (offered : ℕ)
    → is_call (λ k. is_handled k.life) o ≡ false
    → Err refusals.NotOpen ≡ served_write s l o offered
write-refused s l None offered none = refl
write-refused s l (Some k) offered none =
    sym (refuses k.life k.looks.received.ended (min offered (room s l k.looks)) none)

module _ (class : List ℕ → Class) (sv : ServerState) (c : CallName) where
  -- ---- bytes are accepted

  pub write_open : (new : NodeState) (key got : ℕ) (bytes : List ℕ) → IsBytes bytes → got ≤ length bytes
      → KeepsNode sv.node new
      → ((l : Looks) → Serves class sv l → IsFound l c key lives.Accepted)
      → ((l : Looks) (ch : Channel) (k : CallRecord) → Mirrors class sv.node l → IsChannel l key ch
      → latest l ch ≡ Some k
      → true ≡ k.looks.received.ended)
      → ((l : Looks) (ch : Channel) (k : CallRecord) → Mirrors class sv.node l → IsChannel l key ch
      → latest l ch ≡ Some k
      → got ≡ min (length bytes) (room (setup_of class sv.node) l k.looks))
      → ((l : Looks) (ch : Channel) → Mirrors class sv.node l → IsChannel l key ch
      → Mirrors class new (on_looks (latest_name l ch) (after_write (take got bytes)) l))
      → Quiet class sv new (events.Wrote c (length bytes) (writers.Server (Ok got)) (take got bytes))
  write_open new key got bytes all within kept found ended answered steps =
      record {
        parts = parts_stay sv.node new kept;
        allowed = λ l serves. (answers l serves, take_bytes got bytes all, taken-all got bytes within);
        mirrors = λ l serves. (
            let f = found l serves in
            subst (λ (d : CallName). Mirrors class new (on_looks d (after_write (take got bytes)) l)) f.latest
            (steps l (channel_of c) serves.mirrors f.channel));
        dims = λ l. dims_looks c (after_write (take got bytes)) l (λ k is. is);
        rests = λ l. record { firsts = refl; entered = refl; proved = refl };
      }
    where
      s : Setup
      s = setup_of class sv.node

      answers : (l : Looks) → Serves class sv l
          → ◌≡◌ {A = Result ℕ ServeRefused} (Ok got) (served_write s l (call_at l c) (length bytes))
      answers l serves =
          let f = found l serves in
          let last = found_latest l c key lives.Accepted f in
          let whole = ended l (channel_of c) f.call serves.mirrors f.channel last in
          ap (λ (n : ℕ). Ok n) (answered l (channel_of c) f.call serves.mirrors f.channel last)
          ∙ ap (λ (b : Bool). served_by lives.Accepted b (min (length bytes) (room s l f.call.looks))) whole
          ∙ sym (write-of s l c key (length bytes) f)

  -- ---- none is

  write-idle : (offered : ℕ) (refused : ServeRefused)
      → ((l : Looks) → Serves class sv l
      → ◌≡◌ {A = Result ℕ ServeRefused} (Err refused) (served_write (setup_of class sv.node) l (call_at l c) offered))
      → Quiet class sv sv.node (events.Wrote c offered (writers.Server (Err refused)) [])
  write-idle offered refused answers =
      record {
        parts = same_parts sv.node;
        allowed = λ l serves. (answers l serves, none-said, refl);
        mirrors = λ l serves. subst (λ (m : Looks). Mirrors class sv.node m) (sym (write_nothing c l)) serves.mirrors;
        dims = λ l. dims_looks c (after_write []) l (λ k is. is);
        rests = λ l. record { firsts = refl; entered = refl; proved = refl };
      }

  -- since the request wasn't read to its end
  pub write_unread : (key offered : ℕ) → ((l : Looks) → Serves class sv l → IsFound l c key lives.Accepted)
      → ((l : Looks) (ch : Channel) (k : CallRecord) → Mirrors class sv.node l → IsChannel l key ch
      → latest l ch ≡ Some k
      → false ≡ k.looks.received.ended)
      → Quiet class sv sv.node (events.Wrote c offered (writers.Server (Err refusals.Unread)) [])
  write_unread key offered found unread =
      write-idle offered refusals.Unread
      (λ l serves. (
      let f = found l serves in
      let ended = unread l (channel_of c) f.call serves.mirrors f.channel (found_latest l c key lives.Accepted f) in
      ap (λ (b : Bool). served_by lives.Accepted b (min offered (room (setup_of class sv.node) l f.call.looks))) ended
      ∙ sym (write-of (setup_of class sv.node) l c key offered f)))

  -- since it broke
  pub write_broken : (key offered : ℕ) (code : ℤ)
      → ((l : Looks) → Serves class sv l → IsFound l c key (lives.Broken code))
      → Quiet class sv sv.node (events.Wrote c offered (writers.Server (Err (refusals.Gone code))) [])
  write_broken key offered code found =
      write-idle offered (refusals.Gone code)
      (λ l serves. (
      let f = found l serves in
      let s : Setup = setup_of class sv.node in
      sym (ap (λ (o : Option CallRecord). served_write s l o offered) f.there
      ∙ ap (λ (x : Life). served_by x f.call.looks.received.ended (min offered (room s l f.call.looks))) f.life_is)))

  -- since it isn't open
  pub write_closed : (offered : ℕ)
      → ((l : Looks) → Serves class sv l → is_call (λ k. is_handled k.life) (call_at l c) ≡ false)
      → Quiet class sv sv.node (events.Wrote c offered (writers.Server (Err refusals.NotOpen)) [])
  write_closed offered none =
      write-idle offered refusals.NotOpen
      (λ l serves. write-refused (setup_of class sv.node) l (call_at l c) offered (none l serves))
