-- What changes that bring no call to life leave: channels' numbers, the calls that live, and how many.
use Rattle.std.proofs.Common.{◌≡◌, ◌≤◌, ℕ, suc, cond, if◌then◌else◌, Bool, true, false, List, [], ◌∷◌}
use Rattle.std.proofs.Common.{Some, refl, ◌∙◌, ap, subst, arith}
use Rattle.std.specs.List.{find}
use Rattle.rx_model.specs.declared.names.CallName.{CallName}
use Rattle.rx_model.specs.Names.{Connection, same_connection, same_name}
use Rattle.rx_rules.specs.Life.{is_live}
use Rattle.rx_rules.specs.Looks.{CallRecord, ConnLooks, Looks, call_at, conn_at, is_call}
use Rattle.rx_rules.specs.Slots.{count_live}
use Rattle.rx_rules.proofs.ConnsLaws.{number_of}
use Rattle.rx_history.proofs.Pairwise.{Pairwise}
use Rattle.rx_history.proofs.Dimensions.Dims.{Dims, Fades, Same}

found-same : (x : Connection) (rs qs : List ConnLooks) (n : ℕ) → Pairwise Same rs qs
    → number_of (find (λ r. same_connection r.connection x) qs) n ≡ number_of
    (find (λ r. same_connection r.connection x) rs) n
found-same x [] [] n p = refl
found-same x [] (q ∷ qs) n p = absurd p
found-same x (r ∷ rs) [] n p = absurd p
found-same x (r ∷ rs) (q ∷ qs) n p =
    let name : q.connection ≡ r.connection = p.0.alike.connection in
    let rest = found-same x rs qs n p.1 in
    ap (λ (y : Connection). number_of
    (cond (same_connection y x) (Some q) (find (λ r. same_connection r.connection x) qs)) n) name
    ∙ (elim (same_connection r.connection x) as
    (λ b. number_of (cond b (Some q) (find (λ r. same_connection r.connection x) qs)) n
    ≡ number_of (cond b (Some r) (find (λ r. same_connection r.connection x) rs)) n) [
      | true ↦ p.0.numbers n
      | false ↦ rest
    ])

-- the numbers of channels
pub numbers_stay : (l m : Looks) (x : Connection) (n : ℕ) → Dims l m
    → number_of (conn_at m x) n ≡ number_of (conn_at l x) n
numbers_stay l m x n dims = found-same x l.conns m.conns n dims.conns

found-live : (c : CallName) (ks js : List CallRecord) → Pairwise Fades ks js
    → is_call (λ k. is_live k.life) (find (λ k. same_name k.name c) js) ≡ true
    → is_call (λ k. is_live k.life) (find (λ k. same_name k.name c) ks) ≡ true
found-live c [] [] p is = is
found-live c [] (j ∷ js) p is = absurd p
found-live c (k ∷ ks) [] p is = absurd p
found-live c (k ∷ ks) (j ∷ js) p is =
    let name : j.name ≡ k.name = p.0.name in
    let at = subst (λ (n : CallName). is_call (λ k. is_live k.life)
    (cond (same_name n c) (Some j) (find (λ k. same_name k.name c) js)) ≡ true) name is in
    (elim (same_name k.name c) as
    (λ b. is_call (λ k. is_live k.life) (cond b (Some j) (find (λ k. same_name k.name c) js)) ≡ true
    → is_call (λ k. is_live k.life) (cond b (Some k) (find (λ k. same_name k.name c) ks)) ≡ true) [
      | true ↦ λ is. p.0.live is
      | false ↦ λ is. found-live c ks js p.1 is
    ]) at

-- the calls that live lived
pub live_stays : (l m : Looks) (c : CallName) → Dims l m → is_call (λ k. is_live k.life) (call_at m c) ≡ true
    → is_call (λ k. is_live k.life) (call_at l c) ≡ true
live_stays l m c dims is = found-live c l.calls m.calls dims.calls is

one-live : (old new : Bool) (m n : ℕ) → (new ≡ true → old ≡ true) → n ≤ m
    → (if new then suc n else n) ≤ (if old then suc m else m)
one-live true true m n falls low = omega arith
one-live true false m n falls low = omega arith
one-live false true m n falls low = absurd (let is = falls refl in cc (is))
one-live false false m n falls low = low

-- no more of them live
pub fewer_live : (ks js : List CallRecord) → Pairwise Fades ks js → count_live js ≤ count_live ks
fewer_live [] [] p = omega arith
fewer_live [] (j ∷ js) p = absurd p
fewer_live (k ∷ ks) [] p = absurd p
fewer_live (k ∷ ks) (j ∷ js) p =
    one-live (is_live k.life) (is_live j.life) (count_live ks) (count_live js) p.0.live (fewer_live ks js p.1)
