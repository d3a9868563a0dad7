-- What was said and read of a call stays, and its life goes on: changes that leave it so.
use Rattle.std.proofs.Common.{◌≡◌, cond, ℕ, ℤ, Bool, true, false}
use Rattle.std.specs.List.{find}
use Rattle.std.proofs.Common.{List, Option, Some, None, option_map, refl, ◌∙◌, ap, sym, subst}
use Rattle.rx_model.specs.declared.answers.End.{End}
use Rattle.rx_model.specs.declared.names.CallName.{CallName}
use Rattle.rx_model.specs.Names.{same_name}
use Rattle.rx_model.proofs.NameLaws.{name_is}
use Rattle.rx_rules.specs.CallLooks.{CallLooks}
use Rattle.rx_rules.specs.Life.{Life, after_acks, after_cancel, after_code, after_end, after_later, after_silence}
use Rattle.rx_rules.specs.Life as lives
use Rattle.rx_rules.specs.Looks.{CallRecord, Looks, call_at}
use Rattle.rx_rules.specs.Looks.{on_call, on_calls, on_life, on_looks}
use Rattle.rx_rules.proofs.CallsLaws.{KeepsNames, changed_if, changed_if-name, call_at-on_calls, call_at-on_call}
use Rattle.rx_rules.proofs.FindLaws.{find_passes}
use Rattle.rx_asks.specs.History.{IsCalled}

-- what a record says of the two streams of its call: the bytes said, whether that is all, and the bytes read
pub record Spoken : Type 0 where
  pub said : List ℕ
  pub shut : Bool
  pub read : List ℕ

abbrev pub spoken_in : CallLooks → Spoken
spoken_in k =
    record { said = k.sent.said; shut = k.sent.shut; read = k.received.read }

-- ---- lives

-- a life goes on: a client's call stays one, and one that ended stays so
pub record GoesOn (x y : Life) : Type 0 where
  pub called : IsCalled x → IsCalled y
  pub ended : (end : End) → x ≡ lives.Ended end → y ≡ lives.Ended end

pub on-refl : (x : Life) → GoesOn x x
on-refl x = record { called = λ is. is; ended = λ end is. is }

pub on-trans : (x y z : Life) → GoesOn x y → GoesOn y z → GoesOn x z
on-trans x y z p q =
    record { called = λ is. q.called (p.called is); ended = λ end is. q.ended end (p.ended end is) }

-- a step that leaves each end, and lets a client's call live or end
pub on-step : (step : Life → Life) → ((end : End) → step (lives.Ended end) ≡ lives.Ended end)
    → IsCalled (step lives.Calling) → (x : Life) → GoesOn x (step x)
on-step step stays calls lives.Calling = record { called = λ is. calls; ended = λ end is. absurd cc }
on-step step stays calls (lives.Ended end) =
    record {
      called = λ is. subst IsCalled (sym (stays end)) tt;
      ended = λ other is. ap step is ∙ stays other;
    }
on-step step stays calls lives.Waiting = record { called = λ is. absurd is; ended = λ end is. absurd cc }
on-step step stays calls lives.Accepted = record { called = λ is. absurd is; ended = λ end is. absurd cc }
on-step step stays calls lives.Finished = record { called = λ is. absurd is; ended = λ end is. absurd cc }
on-step step stays calls (lives.Broken code) = record { called = λ is. absurd is; ended = λ end is. absurd cc }
on-step step stays calls (lives.Over code) = record { called = λ is. absurd is; ended = λ end is. absurd cc }

pub on-code : (code : ℤ) (x : Life) → GoesOn x (after_code code x)
on-code code x = on-step (after_code code) (λ end. refl) tt x

pub on-silence : (n : ℕ) (x : Life) → GoesOn x (after_silence n x)
on-silence n x = on-step (after_silence n) (λ end. refl) tt x

pub on-later : (x : Life) → GoesOn x (after_later x)
on-later x = on-step after_later (λ end. refl) tt x

pub on-acks : (all : Bool) (x : Life) → GoesOn x (after_acks all x)
on-acks all x = on-step (after_acks all) (λ end. refl) tt x

pub on-end : (end : Bool) (x : Life) → GoesOn x (after_end end x)
on-end true x = on-step (after_end true) (λ end. refl) tt x
on-end false x = on-step (after_end false) (λ end. refl) tt x

pub on-cancel : (code : ℤ) (x : Life) → GoesOn x (after_cancel code x)
on-cancel code x = on-step (after_cancel code) (λ end. refl) tt x

-- ---- changes of calls

-- what a record says stays, and its life goes on
pub record KeptRecord (a b : CallRecord) : Type 0 where
  pub spoken : spoken_in b.looks ≡ spoken_in a.looks
  pub life : GoesOn a.life b.life

-- the same of a call that is looked for: none comes, and none goes
abbrev pub Kept : Option CallRecord → Option CallRecord → Type 0
Kept None None = Unit {0}
Kept (Some a) (Some b) = KeptRecord a b
Kept None (Some b) = ⊥
Kept (Some a) None = ⊥

-- it stays as it is
pub record-refl : (k : CallRecord) → KeptRecord k k
record-refl k = record { spoken = refl; life = on-refl k.life }

pub kept-refl : (o : Option CallRecord) → Kept o o
kept-refl None = tt
kept-refl (Some k) = record-refl k

kept-trans : (a b c : Option CallRecord) → Kept a b → Kept b c → Kept a c
kept-trans None None None p q = tt
kept-trans None None (Some c) p q = q
kept-trans None (Some b) c p q = absurd p
kept-trans (Some a) None c p q = absurd p
kept-trans (Some a) (Some b) None p q = q
kept-trans (Some a) (Some b) (Some c) p q =
    record { spoken = q.spoken ∙ p.spoken; life = on-trans a.life b.life c.life p.life q.life }

-- look-ups behind a step keep a call
abbrev pub KeptAt : CallName → Looks → Looks → Type 0
KeptAt c l m = Kept (call_at l c) (call_at m c)

-- one step and then another
pub kept-then : (c : CallName) (l m n : Looks) → KeptAt c l m → KeptAt c m n → KeptAt c l n
kept-then c l m n p q = kept-trans (call_at l c) (call_at m c) (call_at n c) p q

-- a change of all records keeps each
abbrev pub Keeps : (CallRecord → CallRecord) → Type 0
Keeps change = (k : CallRecord) → KeptRecord k (change k)

kept-map : (change : CallRecord → CallRecord) (o : Option CallRecord) → Keeps change → Kept o (option_map change o)
kept-map change None keeps = tt
kept-map change (Some k) keeps = keeps k

pub kept-on_calls : (c : CallName) (change : CallRecord → CallRecord) (l : Looks) → KeepsNames change → Keeps change
    → KeptAt c l (on_calls change l)
kept-on_calls c change l names keeps =
    subst (λ (o : Option CallRecord). Kept (call_at l c) o) (sym (call_at-on_calls c change l names))
    (kept-map change (call_at l c) keeps)

kept-if : (test : Bool) (change : CallRecord → CallRecord) (k : CallRecord) → KeptRecord k (change k)
    → KeptRecord k (cond test (change k) k)
kept-if true change k keeps = keeps
kept-if false change k keeps = record-refl k

pub kept-on_call : (c d : CallName) (change : CallRecord → CallRecord) (l : Looks) → KeepsNames change → Keeps change
    → KeptAt c l (on_call d change l)
kept-on_call c d change l names keeps =
    kept-on_calls c (changed_if d change) l (λ k. changed_if-name (same_name k.name d) change k (names k))
    (λ k. kept-if (same_name k.name d) change k (keeps k))

pub kept-on_life : (c d : CallName) (change : Life → Life) (l : Looks) → ((x : Life) → GoesOn x (change x))
    → KeptAt c l (on_life d change l)
kept-on_life c d change l goes =
    kept-on_call c d (λ k. record k { life = change k.life }) l (λ k. refl)
    (λ k. record { spoken = refl; life = goes k.life })

pub kept-on_looks : (c d : CallName) (change : CallLooks → CallLooks) (l : Looks)
    → ((k : CallLooks) → spoken_in (change k) ≡ spoken_in k) → KeptAt c l (on_looks d change l)
kept-on_looks c d change l leaves =
    kept-on_call c d (λ k. record k { looks = change k.looks }) l (λ k. refl)
    (λ k. record { spoken = leaves k.looks; life = on-refl k.life })

-- another call changes
pub kept-other : (c d : CallName) (change : CallRecord → CallRecord) (l : Looks) → KeepsNames change
    → same_name c d ≡ false → KeptAt c l (on_call d change l)
kept-other c d change l names other =
    subst (λ (o : Option CallRecord). Kept (call_at l c) o)
    (sym (call_at-on_call c d change l names ∙ of (call_at l c) refl)) (kept-refl (call_at l c))
  where
    of : (o : Option CallRecord) → call_at l c ≡ o → option_map (changed_if d change) o ≡ o
    of None is = refl
    of (Some k) is =
        let name : k.name ≡ c = name_is k.name c (find_passes (λ j. same_name j.name c) l.calls k is) in
        let apart : same_name k.name d ≡ false = subst (λ (n : CallName). same_name n d ≡ false) (sym name) other in
        ap (λ (b : Bool). Some (cond b (change k) k)) apart

-- look-ups with the same calls keep each
pub kept-by : (l m : Looks) (c : CallName) → m.calls ≡ l.calls → KeptAt c l m
kept-by l m c same =
    subst (λ (ks : List CallRecord). Kept (call_at l c) (find (λ k. same_name k.name c) ks)) (sym same)
    (kept-refl (call_at l c))
