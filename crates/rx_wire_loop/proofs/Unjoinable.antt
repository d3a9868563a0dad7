-- Datagrams that can't be joined behind those before them.
use Rattle.std.proofs.Common.{◌≡◌, ◌∙◌, ℕ, true, false, List, [], ◌∷◌, ◌++◌}
use Rattle.std.proofs.Common.{None, refl, sym, ap, subst, inl, inr, append_assoc}
use Rattle.std.specs.Prelude.{map}
use Rattle.std.proofs.lemmas.List.{append-nil, map-append}
use Rattle.rx_jumbo.specs.JoinerState.{JoinerState, takes}
use Rattle.rx_model.specs.declared.names.Host.{Host}
use Rattle.rx_wire_loop.specs.Ports.{AreUnjoinable, IsUnjoinable, Offered, as_one, split}
use Rattle.rx_wire_loop.proofs.Giving.{follows_others, some_last, taken_behind}

-- where none can be joined, none of the first ones can
pub unjoinable_front : (most : ℕ) (gs hs : List (Host × List (List ℕ))) → AreUnjoinable most (gs ++ hs)
    → AreUnjoinable most gs
unjoinable_front most [] hs apart = tt
unjoinable_front most (g ∷ []) hs apart = (tt, tt)
unjoinable_front most (g ∷ h ∷ gs) hs apart = (apart.0, unjoinable_front most (h ∷ gs) hs apart.1)

-- the last one goes on
unjoinable_longer : (most : ℕ) (gs : List (Host × List (List ℕ))) (to : Host) (b : List ℕ) (bs cs : List (List ℕ))
    → AreUnjoinable most (gs ++ (to, b ∷ bs) ∷ []) → AreUnjoinable most (gs ++ (to, b ∷ cs) ∷ [])
unjoinable_longer most [] to b bs cs apart = (tt, tt)
unjoinable_longer most (g ∷ []) to b bs cs apart = (apart.0, (tt, tt))
unjoinable_longer most (g ∷ h ∷ gs) to b bs cs apart = (apart.0, unjoinable_longer most (h ∷ gs) to b bs cs apart.1)

-- one more stands behind the last one
unjoinable_next : (most : ℕ) (gs : List (Host × List (List ℕ))) (g h : Host × List (List ℕ))
    → AreUnjoinable most (gs ++ g ∷ []) → IsUnjoinable most g h → AreUnjoinable most (gs ++ g ∷ h ∷ [])
unjoinable_next most [] g h apart last = (last, (tt, tt))
unjoinable_next most (f ∷ []) g h apart last = (apart.0, (last, (tt, tt)))
unjoinable_next most (f ∷ e ∷ gs) g h apart last = (apart.0, unjoinable_next most (e ∷ gs) g h apart.1 last)

-- a datagram was joined behind what was held back
unjoinable_joined : (most : ℕ) (gs : List (Host × List (List ℕ))) (host to : Host) (ds : List (List ℕ)) (d : List ℕ)
    → takes (record { most = most; host = host; datagrams = ds }) to d ≡ true → (ds ≡ [] → gs ≡ [])
    → AreUnjoinable most (gs ++ as_one host ds) → AreUnjoinable most (gs ++ as_one to (ds ++ d ∷ []))
unjoinable_joined most gs host to [] d taken first apart =
    subst (λ (hs : List (Host × List (List ℕ))). AreUnjoinable most (hs ++ (to, d ∷ []) ∷ [])) (sym (first refl))
    (tt, tt)
unjoinable_joined most gs host to (x ∷ xs) d taken first apart =
    subst (λ (h : Host). AreUnjoinable most (gs ++ (h, x ∷ (xs ++ d ∷ [])) ∷ []))
    (follows_others most host to x xs d taken).host (unjoinable_longer most gs host x xs (xs ++ d ∷ []) apart)

-- it can't be joined behind it
unjoinable_alone : (most : ℕ) (gs : List (Host × List (List ℕ))) (host to : Host) (ds : List (List ℕ)) (d : List ℕ)
    → takes (record { most = most; host = host; datagrams = ds }) to d ≡ false
    → AreUnjoinable most (gs ++ as_one host ds) → AreUnjoinable most ((gs ++ as_one host ds) ++ (to, d ∷ []) ∷ [])
unjoinable_alone most gs host to [] d taken apart = absurd (cc (taken))
unjoinable_alone most gs host to (x ∷ xs) d taken apart =
    subst (λ (hs : List (Host × List (List ℕ))). AreUnjoinable most hs)
    (sym (append_assoc gs ((host, x ∷ xs) ∷ []) ((to, d ∷ []) ∷ [])))
    (unjoinable_next most gs (host, x ∷ xs) (to, d ∷ []) apart (taken_behind most host to x xs d ∙ taken))

-- those given and those given behind them
both_split : (given more : List (Host × List ℕ)) → map split (given ++ more) ≡ map split given ++ map split more
both_split given more = map-append split given more

-- what was held back is given too, as one
pub unjoinable_last : (most : ℕ) (j : JoinerState) (given last : List (Host × List ℕ))
    → map split last ≡ as_one j.host j.datagrams → AreUnjoinable most (map split given ++ as_one j.host j.datagrams)
    → AreUnjoinable most (map split (given ++ last))
unjoinable_last most j given last whole apart =
    subst (λ (hs : List (Host × List (List ℕ))). AreUnjoinable most hs)
    (sym (both_split given last ∙ ap (λ (hs : List (Host × List (List ℕ))). map split given ++ hs) whole)) apart

-- a datagram is held back behind what was given for it
pub unjoinable_offered : (most : ℕ) (j k : JoinerState) (d : Host × List ℕ) (given more : List (Host × List ℕ))
    → j.most ≡ most → Offered j k d more None → (j.datagrams ≡ [] → given ≡ [])
    → AreUnjoinable most (map split given ++ as_one j.host j.datagrams)
    → AreUnjoinable most (map split (given ++ more) ++ as_one k.host k.datagrams)
unjoinable_offered most j k d given more is (inl (taken, none, next)) first apart =
    rw next (rw none (rw (append-nil given) (unjoinable_joined most (map split given) j.host d.0 j.datagrams d.1
    (subst (λ (m : ℕ). takes (record { most = m; host = j.host; datagrams = j.datagrams }) d.0 d.1 ≡ true) is taken)
    (λ empty. ap (map split) (first empty)) apart)))
unjoinable_offered most j k d given more is (inr (alone, whole, next)) first apart =
    rw next (subst (λ (hs : List (Host × List (List ℕ))). AreUnjoinable most (hs ++ (d.0, d.1 ∷ []) ∷ []))
    (sym (both_split given more ∙ ap (λ (hs : List (Host × List (List ℕ))). map split given ++ hs) whole))
    (unjoinable_alone most (map split given) j.host d.0 j.datagrams d.1
    (subst (λ (m : ℕ). takes (record { most = m; host = j.host; datagrams = j.datagrams }) d.0 d.1 ≡ false) is alone)
    apart))

-- it is held back in any case
pub some_offered : (j k : JoinerState) (d : Host × List ℕ) (given : List (Host × List ℕ)) → Offered j k d given None
    → k.datagrams ≡ [] → ⊥
some_offered j k d given (inl (taken, none, next)) empty =
    some_last j.datagrams d.1 (sym (ap (λ (i : JoinerState). i.datagrams) next) ∙ empty)
some_offered j k d given (inr (alone, whole, next)) empty =
    some_last [] d.1 (sym (ap (λ (i : JoinerState). i.datagrams) next) ∙ empty)
