-- What the rules say of a client's call by what the client finds of it.
use Rattle.std.proofs.Common.{◌≡◌, ◌&&◌, ℕ, if◌then◌else◌, not, min, Bool, true, false}
use Rattle.std.proofs.Common.{Option, Some, None, Result, Ok, Err, refl, ◌∙◌, ap, sym}
use Rattle.rx_model.specs.declared.answers.NotOpen.{NotOpen}
use Rattle.rx_model.specs.declared.names.CallName.{CallName}
use Rattle.rx_model.specs.Names.{channel_of}
use Rattle.rx_rules.specs.Life.{Life, is_live}
use Rattle.rx_rules.specs.Looks.{CallRecord, Looks, call_at, is_call, latest}
use Rattle.rx_rules.specs.Rules.{can_say, client_write, done_where, own_call}
use Rattle.rx_rules.specs.Setup.{Setup}
use Rattle.rx_rules.specs.Slots.{room}
use Rattle.rx_node.proofs.OwnCalls.{own_latest}
use Rattle.rx_client.specs.Calling.{HasEnded, IsCallingAt}

-- ---- a call that is found

pub calling_latest : (l : Looks) (key : ℕ) (c : CallName) (a : IsCallingAt l key c)
    → latest l (channel_of c) ≡ Some a.call
calling_latest l key c a = ap (λ (d : CallName). call_at l d) a.latest ∙ a.there

pub calling_own : (l : Looks) (key : ℕ) (c : CallName) (a : IsCallingAt l key c) → own_call l c ≡ Some a.call
calling_own l key c a = own_latest l c a.latest ∙ calling_latest l key c a

-- ---- whether it lives, and may be said on

pub ended_mute : (o : Option CallRecord) → HasEnded o → is_call can_say o ≡ false
ended_mute None ended = refl
ended_mute (Some k) ended = ap (λ (b : Bool). b && not k.looks.sent.shut) (ap is_live ended.1)

pub calling_lives : (l : Looks) (key : ℕ) (c : CallName) → IsCallingAt l key c
    → is_call (λ k. is_live k.life) (own_call l c) ≡ true
calling_lives l key c a =
    ap (is_call (λ k. is_live k.life)) (calling_own l key c a) ∙ ap is_live a.life

pub calling_says : (l : Looks) (key : ℕ) (c : CallName) (a : IsCallingAt l key c)
    → is_call can_say (own_call l c) ≡ not a.call.looks.sent.shut
calling_says l key c a =
    ap (is_call can_say) (calling_own l key c a)
    ∙ ap (λ (x : Life). is_live x && not a.call.looks.sent.shut) a.life

pub shut_mute : (l : Looks) (key : ℕ) (c : CallName) (a : IsCallingAt l key c) → a.call.looks.sent.shut ≡ true
    → is_call can_say (own_call l c) ≡ false
shut_mute l key c a shut = calling_says l key c a ∙ ap not shut

pub unshut_says : (l : Looks) (key : ℕ) (c : CallName) (a : IsCallingAt l key c) → a.call.looks.sent.shut ≡ false
    → is_call can_say (own_call l c) ≡ true
unshut_says l key c a unshut = calling_says l key c a ∙ ap not unshut

-- ---- a write

pub refused_write : (s : Setup) (l : Looks) (o : Option CallRecord) (offered : ℕ) → is_call can_say o ≡ false
    → ◌≡◌ {A = Result ℕ NotOpen} (Err (record {})) (client_write s l o offered)
refused_write s l None offered mute = refl
refused_write s l (Some k) offered mute =
    sym (ap (λ (b : Bool). if b then Ok (min offered (room s l k.looks)) else Err (record {})) mute)

pub accepted_write : (s : Setup) (l : Looks) (key : ℕ) (c : CallName) (offered : ℕ) (a : IsCallingAt l key c)
    → a.call.looks.sent.shut ≡ false
    → ◌≡◌ {A = Result ℕ NotOpen} (Ok (min offered (room s l a.call.looks))) (client_write s l (own_call l c) offered)
accepted_write s l key c offered a unshut =
    sym (ap (λ (o : Option CallRecord). client_write s l o offered) (calling_own l key c a)
    ∙ ap (λ (b : Bool). if b then Ok (min offered (room s l a.call.looks)) else Err (record {}))
    ((λ i. is_live (a.life i) && not (unshut i))))

-- ---- what is done or refused

pub not_done : (test : Bool) → test ≡ false → ◌≡◌ {A = Result (Unit {0}) NotOpen} (Err (record {})) (done_where test)
not_done test fails = sym (ap done_where fails)

pub was_done : (test : Bool) → test ≡ true → ◌≡◌ {A = Result (Unit {0}) NotOpen} (Ok tt) (done_where test)
was_done test passes = sym (ap done_where passes)
