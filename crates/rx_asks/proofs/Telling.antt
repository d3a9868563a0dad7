-- What a caller tells of its call, carried along a history.
use Rattle.std.proofs.Common.{◌≡◌, ◌⊎◌, ◌==◌, ◌++◌, inl, inr, if◌then◌else◌, is_some, ℕ, ℤ, zero, suc, Bool}
use Rattle.std.proofs.Common.{true, false, List, [], ◌∷◌, length, take, drop, append_assoc, append-nil, length-append}
use Rattle.std.proofs.Common.{Option, Some, None, Ok, Err, refl, ◌∙◌, ap, sym, subst, arith}
use Rattle.rx_model.specs.declared.answers.CallRead.{CallRead}
use Rattle.rx_model.specs.declared.answers.CallRead.TheVariants as callreads
use Rattle.rx_model.specs.declared.answers.End.{End}
use Rattle.rx_model.specs.declared.answers.End.TheVariants as ends
use Rattle.rx_model.specs.declared.answers.ReadAns.{ReadAns}
use Rattle.rx_model.specs.declared.answers.ReadAns.TheVariants as answers
use Rattle.rx_model.specs.declared.answers.ReadGot.TheVariants as readers
use Rattle.rx_model.specs.declared.answers.WroteGot.TheVariants as writers
use Rattle.rx_model.specs.declared.event.Event.{Event}
use Rattle.rx_model.specs.declared.event.Event.TheVariants as events
use Rattle.rx_model.specs.declared.names.CallName.{CallName}
use Rattle.rx_model.specs.declared.names.Host.{Host}
use Rattle.rx_model.specs.Names.{channel_of}
use Rattle.rx_rules.specs.After.{acknowledged, after, is_end}
use Rattle.rx_rules.specs.CallLooks.{CallLooks, after_read, after_shut, after_write}
use Rattle.rx_rules.specs.Life.{Life, after_cancel, after_end}
use Rattle.rx_rules.specs.Life as lives
use Rattle.rx_rules.specs.Looks.{CallRecord, Looks, call_at, channel_at, on_life, on_looks}
use Rattle.rx_rules.specs.Received.{read_of}
use Rattle.rx_rules.specs.Rules.{AllowedClient, client_read, client_read_by, client_read_got, own_call}
use Rattle.rx_rules.specs.Setup.{Setup}
use Rattle.rx_history.specs.Streams as streams
use Rattle.rx_events.specs.Events.{written_count}
use Rattle.rx_asks.specs.declared.ask.TheConstants.{BLOCK_BYTES, CC_UNMARSHAL}
use Rattle.rx_asks.specs.Asks.{Asking, IsAsked, Offers, Shuts, Reads, Cancels, begun, calling, end_after, heard}
use Rattle.rx_asks.specs.History.{IsCalled, IsCalledAt, Tells}
use Rattle.rx_asks.specs.View.{CallerState}
use Rattle.rx_asks.proofs.Asked.{asks_own, asks_unended, cancels_with, offers_next, shuts_all}
use Rattle.rx_asks.proofs.Kept.{Kept, Spoken, on-cancel, on-end}
use Rattle.rx_asks.proofs.CallerEvents.{own_change}

-- ---- of the record of its call

-- what a caller that is finished so tells of a life
abbrev pub TellsEnd : Option End → Life → Type 0
TellsEnd told life =
    (end : End) → told ≡ Some end → (end ≡ ends.Cancelled CC_UNMARSHAL) ⊎ (streams.end_of_life life ≡ Some end)

-- what it tells of a record
pub record TellsIn (request offering reply : List ℕ) (told : Option End) (k : CallRecord) : Type 0 where
  pub called : IsCalled k.life
  pub said : k.looks.sent.said ++ offering ≡ request
  pub shut : k.looks.sent.shut ≡ true → offering ≡ []
  pub read : reply ≡ k.looks.received.read
  pub ended : TellsEnd told k.life

-- a record that is there
pub record IsThere (o : Option CallRecord) : Type 0 where
  pub call : CallRecord
  pub there : o ≡ Some call

pub is_there : (o : Option CallRecord) → IsCalledAt o → IsThere o
is_there None called = absurd called
is_there (Some k) called = record { call = k; there = refl }

-- where nothing more is added, there was nothing more
none-more : (xs ys : List ℕ) → xs ++ ys ≡ xs → ys ≡ []
none-more xs [] is = refl
none-more xs (y ∷ ys) is =
    let both = length-append xs (y ∷ ys) in
    let same : length (xs ++ (y ∷ ys)) ≡ length xs = ap length is in
    absurd (omega arith)

-- from the record to its look-up
pub tells_of : (request : List ℕ) (v : CallerState) (l : Looks) (k : CallRecord) → call_at l v.call ≡ Some k
    → TellsIn request v.offering v.reply v.end k → Tells request v l
tells_of request v l k there t =
    record {
      called = subst IsCalledAt (sym there) t.called;
      said = ap (λ (o : Option CallRecord). streams.said_by o ++ v.offering) there ∙ t.said;
      whole = λ shut.
          ap streams.said_by there
          ∙ sym (append-nil k.looks.sent.said)
          ∙ ap (λ (xs : List ℕ). k.looks.sent.said ++ xs)
          (sym (t.shut (sym (ap streams.is_shut_by there) ∙ shut)))
          ∙ t.said;
      reply = t.read ∙ sym (ap streams.read_by there);
      ended = λ end is.
          subst (λ (o : Option CallRecord). (end ≡ ends.Cancelled CC_UNMARSHAL) ⊎ (streams.end_by o ≡ Some end))
          (sym there) (t.ended end is);
    }

-- and back
pub tells_in : (request : List ℕ) (v : CallerState) (l : Looks) (k : CallRecord) → call_at l v.call ≡ Some k
    → Tells request v l → TellsIn request v.offering v.reply v.end k
tells_in request v l k there t =
    let said : k.looks.sent.said ++ v.offering ≡ request =
    sym (ap (λ (o : Option CallRecord). streams.said_by o ++ v.offering) there) ∙ t.said in
    record {
      called = subst IsCalledAt there t.called;
      said = said;
      shut = λ shut.
          none-more k.looks.sent.said v.offering
          (said ∙ sym (t.whole (ap streams.is_shut_by there ∙ shut)) ∙ ap streams.said_by there);
      read = t.reply ∙ ap streams.read_by there;
      ended = λ end is.
          subst (λ (o : Option CallRecord). (end ≡ ends.Cancelled CC_UNMARSHAL) ⊎ (streams.end_by o ≡ Some end)) there
          (t.ended end is);
    }

-- ---- its own call changes

own-looks : (c : CallName) (change : CallLooks → CallLooks) (l : Looks) (k : CallRecord) → call_at l c ≡ Some k
    → call_at (on_looks c change l) c ≡ Some (record k { looks = change k.looks })
own-looks c change l k there = own_change c (λ j. record j { looks = change j.looks }) l k (λ j. refl) there

own-life : (c : CallName) (change : Life → Life) (l : Looks) (k : CallRecord) → call_at l c ≡ Some k
    → call_at (on_life c change l) c ≡ Some (record k { life = change k.life })
own-life c change l k there = own_change c (λ j. record j { life = change j.life }) l k (λ j. refl) there

-- ---- bytes that were accepted

-- the first bytes of the first, and those behind them
pub first-of : (n m : ℕ) (xs : List ℕ) → take n (take m xs) ++ drop (length (take n (take m xs))) xs ≡ xs
first-of zero zero [] = refl
first-of zero zero (x ∷ xs) = refl
first-of zero (suc m) [] = refl
first-of zero (suc m) (x ∷ xs) = refl
first-of (suc n) zero [] = refl
first-of (suc n) zero (x ∷ xs) = refl
first-of (suc n) (suc m) [] = refl
first-of (suc n) (suc m) (x ∷ xs) = ap (λ (ys : List ℕ). x ∷ ys) (first-of n m xs)

drop-none : (n : ℕ) (xs : List ℕ) → xs ≡ [] → drop n xs ≡ []
drop-none zero [] is = refl
drop-none (suc n) [] is = refl
drop-none n (x ∷ xs) is = absurd cc

offered-whole : (offering block bytes : List ℕ) (n : ℕ) → block ≡ take BLOCK_BYTES offering → bytes ≡ take n block
    → bytes ++ drop (length bytes) offering ≡ offering
offered-whole offering block bytes n is first =
    subst (λ (ys : List ℕ). ys ++ drop (length ys) offering ≡ offering) (sym (first ∙ ap (take n) is))
    (first-of n BLOCK_BYTES offering)

-- ---- an end that a read tells

-- what a read of a call with such a life tells is its end behind the read
abbrev EndsRightly : ReadAns → Life → Type 0
EndsRightly got life =
    (end : End) → end_after got None ≡ Some end
    → streams.end_of_life (after_end (is_end (readers.Client got)) life) ≡ Some end

-- an answer that tells no end
none-told : (got : ReadAns) (life : Life) → end_after got None ≡ None → EndsRightly got life
none-told got life none end is = absurd (let both = sym none ∙ is in cc (both))

got-tells : (got : CallRead) → EndsRightly (client_read_got got) lives.Calling
got-tells (callreads.Got n) end is = absurd cc
got-tells callreads.NotYet end is = absurd cc
got-tells callreads.End end is = is

life-tells : (life : Life) (read : CallRead × List ℕ) → IsCalled life → EndsRightly (client_read_by life read).0 life
life-tells lives.Calling read called end is = got-tells read.0 end is
life-tells (lives.Ended ends.Ok) read called end is = is
life-tells (lives.Ended (ends.Abort code)) read called end is = is
life-tells (lives.Ended (ends.Dead silence)) read called end is = is
life-tells (lives.Ended (ends.Cancelled code)) read called end is = is
life-tells lives.Waiting read called end is = absurd called
life-tells lives.Accepted read called end is = absurd called
life-tells lives.Finished read called end is = absurd called
life-tells (lives.Broken code) read called end is = absurd called
life-tells (lives.Over code) read called end is = absurd called

read-tells : (l : Looks) (c : CallName) (k : CallRecord) (max : ℕ) → call_at l c ≡ Some k → IsCalled k.life
    → EndsRightly (client_read (own_call l c) max).0 k.life
read-tells l c k max there called = of ((channel_at l (channel_of c)).number == c.number)
  where
    of : (b : Bool) → EndsRightly (client_read (if b then call_at l c else None) max).0 k.life
    of true =
        subst (λ (o : Option CallRecord). EndsRightly (client_read o max).0 k.life) (sym there)
        (life-tells k.life (read_of k.looks.received max) called)
    of false = none-told answers.Unknown k.life refl

-- ---- an event of its own

-- it is finished with its own code
own-code : (code told : ℤ) (end : End) → told ≡ code → code ≡ CC_UNMARSHAL → Some (ends.Cancelled told) ≡ Some end
    → end ≡ ends.Cancelled CC_UNMARSHAL
own-code code told end is own ends_so =
    let same : ends.Cancelled told ≡ end = cc (ends_so) in
    sym same ∙ ap ends.Cancelled (is ∙ own)

pub none-end : (o : Option End) → is_some o ≡ false → o ≡ None
none-end None none = refl
none-end (Some end) none = absurd cc

module _ (limit : ℕ) (request : List ℕ) (s : Setup) (host : Host) (epoch : ℕ) (v : CallerState) (l : Looks)
    (k : CallRecord) (there : call_at l v.call ≡ Some k) (t : TellsIn request v.offering v.reply v.end k) where
  -- behind an offer
  wrote-in : (block bytes : List ℕ) (n : ℕ) → block ≡ take BLOCK_BYTES v.offering
      → bytes ≡ take n block
      → TellsIn request (drop (length bytes) v.offering) v.reply v.end
      (record k { looks = after_write bytes k.looks })
  wrote-in block bytes n is first =
      record {
        called = t.called;
        said =
            append_assoc k.looks.sent.said bytes (drop (length bytes) v.offering)
            ∙ ap (λ (ys : List ℕ). k.looks.sent.said ++ ys) (offered-whole v.offering block bytes n is first) ∙ t.said;
        shut = λ shut. drop-none (length bytes) v.offering (t.shut shut);
        read = t.read;
        ended = t.ended;
      }

  -- behind a read
  read-in : (got : ReadAns) (bytes : List ℕ) (max : ℕ) → is_some v.end ≡ false
      → ◌≡◌ {A = ReadAns × List ℕ} (got, bytes) (client_read (own_call l v.call) max)
      → TellsIn request v.offering (v.reply ++ bytes) (end_after got v.end)
      (record k {
        life = after_end (is_end (readers.Client got)) k.life;
        looks = after_read l.now (is_end (readers.Client got)) bytes k.looks;
      })
  read-in got bytes max lasts allowed =
      let tells : EndsRightly got k.life =
      subst (λ (p : ReadAns × List ℕ). EndsRightly p.0 k.life) (sym allowed)
      (read-tells l v.call k max there t.called) in
      record {
        called = (on-end (is_end (readers.Client got)) k.life).called t.called;
        said = t.said;
        shut = t.shut;
        read = ap (λ (xs : List ℕ). xs ++ bytes) t.read;
        ended = λ end is.
            inr (tells end (ap (end_after got) (sym (none-end v.end lasts)) ∙ is));
      }

  -- what it tells behind an event of a call that it asks
  pub made_in : (a : Asking) (e : Event) → (calling limit).asks v ≡ Some a → IsAsked a e
      → AllowedClient s host epoch l e → Tells request (heard v e) (after s e l)
  made_in (Offers c block) (events.Wrote d offered (writers.Client got) bytes) asked is allowed =
      let own : d ≡ v.call = is.0 ∙ asks_own limit v (Offers c block) asked in
      let new : CallRecord = record k { looks = after_write bytes k.looks } in
      let at : call_at (on_looks d (after_write bytes) l) v.call ≡ Some new =
      ap (λ (n : CallName). call_at (on_looks n (after_write bytes) l) v.call) own
      ∙ own-looks v.call (after_write bytes) l k there in
      tells_of request (heard v (events.Wrote d offered (writers.Client got) bytes)) (on_looks d (after_write bytes) l)
      new at
      (wrote-in block bytes (written_count got) (offers_next limit v c block asked) is.2)
  made_in (Shuts c) (events.Shut d (Ok done)) asked is allowed =
      let own : d ≡ v.call = is ∙ asks_own limit v (Shuts c) asked in
      let at : call_at (on_looks d after_shut l) v.call ≡ Some (record k { looks = after_shut k.looks }) =
      ap (λ (n : CallName). call_at (on_looks n after_shut l) v.call) own ∙ own-looks v.call after_shut l k there in
      tells_of request (heard v (events.Shut d (Ok done))) (on_looks d after_shut l)
      (record k { looks = after_shut k.looks }) at
      (record {
        called = t.called;
        said = t.said;
        shut = λ shut. shuts_all limit v c asked;
        read = t.read;
        ended = t.ended;
      })
  made_in (Shuts c) (events.Shut d (Err closed)) asked is allowed =
      tells_of request (heard v (events.Shut d (Err closed))) l k there t
  made_in (Reads c max) (events.HasRead d most (readers.Client got) bytes) asked is allowed =
      let own : d ≡ v.call = is.0 ∙ asks_own limit v (Reads c max) asked in
      let end : Bool = is_end (readers.Client got) in
      let passed : CallLooks → CallLooks = after_read l.now end bytes in
      let e : Event = events.HasRead d most (readers.Client got) bytes in
      let new : CallRecord = record k { life = after_end end k.life; looks = passed k.looks } in
      let read_at : CallName → Looks = λ n. on_life n (after_end end) (on_looks n passed (acknowledged end n l)) in
      let mine : call_at (read_at v.call) v.call ≡ Some new =
      own-life v.call (after_end end) (on_looks v.call passed (acknowledged end v.call l))
      (record k { looks = passed k.looks }) (own-looks v.call passed (acknowledged end v.call l) k there) in
      let at : call_at (read_at d) v.call ≡ Some new =
      ap (λ (n : CallName). call_at (read_at n) v.call) own ∙ mine in
      tells_of request (heard v e) (after s e l) new at
      (read-in got bytes most (asks_unended limit v (Reads c max) asked)
      (allowed.1 ∙ ap (λ (n : CallName). client_read (own_call l n) most) own))
  made_in (Cancels c code) (events.Cancelled d told (Ok done)) asked is allowed =
      let own : d ≡ v.call = is.0 ∙ asks_own limit v (Cancels c code) asked in
      let e : Event = events.Cancelled d told (Ok done) in
      let new : CallRecord = record k { life = after_cancel told k.life } in
      let at : call_at (on_life d (after_cancel told) l) v.call ≡ Some new =
      ap (λ (n : CallName). call_at (on_life n (after_cancel told) l) v.call) own
      ∙ own-life v.call (after_cancel told) l k there in
      tells_of request (heard v e) (after s e l) new at
      (record {
        called = (on-cancel told k.life).called t.called;
        said = t.said;
        shut = t.shut;
        read = t.read;
        ended = λ end ends_so. inl (own-code code told end (is.1) (cancels_with limit v c code asked) ends_so);
      })
  made_in (Cancels c code) (events.Cancelled d told (Err closed)) asked is allowed =
      tells_of request (heard v (events.Cancelled d told (Err closed))) l k there
      (record {
        called = t.called;
        said = t.said;
        shut = t.shut;
        read = t.read;
        ended = λ end ends_so. inl (own-code code told end (is.1) (cancels_with limit v c code asked) ends_so);
      })
  made_in _ _ asked is allowed = absurd is

module _ (limit : ℕ) (request : List ℕ) (s : Setup) (host : Host) (epoch : ℕ) (v : CallerState) (l : Looks) (a : Asking)
    (e : Event) where
  -- an event of its own carries it on
  pub tells_made : (calling limit).asks v ≡ Some a → IsAsked a e → AllowedClient s host epoch l e → Tells request v l
      → Tells request (heard v e) (after s e l)
  tells_made asked is allowed t =
      let at = is_there (call_at l v.call) t.called in
      made_in limit request s host epoch v l at.call at.there (tells_in request v l at.call at.there t) a e asked is
      allowed

-- so does the beginning of a turn
pub tells_begun : (request : List ℕ) (v : CallerState) (l : Looks) → Tells request v l → Tells request (begun v) l
tells_begun request v l t =
    record { called = t.called; said = t.said; whole = t.whole; reply = t.reply; ended = t.ended }

-- ---- an event of others

ended-life : (life : Life) (end : End) → streams.end_of_life life ≡ Some end → life ≡ lives.Ended end
ended-life (lives.Ended other) end is = (let same : other ≡ end = cc (is) in ap lives.Ended same)
ended-life lives.Calling end is = absurd cc
ended-life lives.Waiting end is = absurd cc
ended-life lives.Accepted end is = absurd cc
ended-life lives.Finished end is = absurd cc
ended-life (lives.Broken code) end is = absurd cc
ended-life (lives.Over code) end is = absurd cc

kept-in : (request : List ℕ) (v : CallerState) (l m : Looks) (k : CallRecord) (o : Option CallRecord)
    → call_at m v.call ≡ o → Kept (Some k) o → TellsIn request v.offering v.reply v.end k → Tells request v m
kept-in request v l m k None is kept t = absurd kept
kept-in request v l m k (Some j) is kept t =
    tells_of request v m j is
    (record {
      called = kept.life.called t.called;
      said = ap (λ (x : Spoken). x.said ++ v.offering) kept.spoken ∙ t.said;
      shut = λ shut. t.shut (sym (ap (λ (x : Spoken). x.shut) kept.spoken) ∙ shut);
      read = t.read ∙ sym (ap (λ (x : Spoken). x.read) kept.spoken);
      ended = λ end told. (elim (t.ended end told)
          as (λ u. (end ≡ ends.Cancelled CC_UNMARSHAL) ⊎ (streams.end_of_life j.life ≡ Some end)) [
            | inl own ↦ inl own
            | inr its ↦ inr (ap streams.end_of_life (kept.life.ended end (ended-life k.life end its)))
          ]);
    })

-- one that keeps its call's record carries it on too
pub tells_kept : (request : List ℕ) (v : CallerState) (l m : Looks) → Kept (call_at l v.call) (call_at m v.call)
    → Tells request v l → Tells request v m
tells_kept request v l m kept t =
    let at = is_there (call_at l v.call) t.called in
    kept-in request v l m at.call (call_at m v.call) refl
    (subst (λ (o : Option CallRecord). Kept o (call_at m v.call)) at.there kept)
    (tells_in request v l at.call at.there t)
