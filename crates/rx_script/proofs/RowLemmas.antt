-- Lines by their first words.
use Rattle.std.proofs.Common.{◌≡◌, ◌≢◌, ℕ, ◌≤◌, Bool, false, List, [], ◌∷◌, ◌++◌, Option, Some, None, Ok, Err, refl}
use Rattle.std.proofs.Common.{sym, ap, ◌∙◌, append_assoc}
use Rattle.std.proofs.lemmas.Bool.{le-ltb}
use Rattle.std.specs.Option.{option_or}
use Rattle.rx_model.specs.declared.names.Host.{Host}
use Rattle.xdr_value.specs.Data.{Procs, Types}
use Rattle.rx_script.specs.declared.fault.LineFault.TheVariants.{BadLine}
use Rattle.rx_script.specs.declared.fault.LineWhy.{LineWhy}
use Rattle.rx_script.specs.declared.limits.TheConstants.{MAX_LINES}
use Rattle.rx_script.specs.declared.plan.PeerLine.{PeerLine}
use Rattle.rx_script.specs.declared.plan.PlanLine.{PlanLine}
use Rattle.rx_script.specs.declared.verb.Verb.{Verb}
use Rattle.rx_script.specs.declared.verb.Verb.TheVariants as verbs
use Rattle.rx_script.specs.Hosts.{has_host, is_host}
use Rattle.rx_script.specs.Pieces.{words_of}
use Rattle.rx_script.specs.Plans.{peer_hosts, peer_in, peer_step, plan_step, server_host, server_in}
use Rattle.rx_script.specs.Rows.{peer_by, peer_line, plain_line, plain_peer_line, plan_by, plan_line, seen_by}
use Rattle.rx_script.specs.Saying.{Row, Said, peer_said, plan_said}
use Rattle.rx_script.specs.Texts.{Step, is_skipped, with_line}

-- ---- lines without values

pub plan_by_other : (t : Types) (ps : Procs) (taken : Host → Bool) (v : Verb) (words : List (List ℕ))
    → v ≢ verbs.Invoke → plan_by t ps taken v words ≡ seen_by plan_said (plain_line taken v) words
plan_by_other t ps taken verbs.Invoke words other = absurd (other refl)
plan_by_other t ps taken _ words other = refl

pub peer_by_other : (t : Types) (ps : Procs) (taken : Host → Bool) (v : Verb) (words : List (List ℕ))
    → v ≢ verbs.Invoke → peer_by t ps taken v words ≡ seen_by peer_said (plain_peer_line taken v) words
peer_by_other t ps taken verbs.Invoke words other = absurd (other refl)
peer_by_other t ps taken _ words other = refl

-- ---- one more line

-- a line of the text that isn't one too many and says something
pub with_line_judged : {S : Type 0} (step : Step S) (n : ℕ) (line : List ℕ) (before : S) → n ≤ MAX_LINES
    → is_skipped line ≡ false → with_line step n line before ≡ step n line before
with_line_judged step n line before few says = rw (le-ltb MAX_LINES n few, says) refl

pub plan_taken : (t : Types) (ps : Procs) (n : ℕ) (line : List ℕ) (before : List (Row PlanLine)) (said : Said PlanLine)
    → n ≤ MAX_LINES → is_skipped line ≡ false
    → plan_line t ps (is_host (server_host before)) (words_of line) ≡ Ok said
    → with_line (plan_step t ps) n line before ≡ Ok (before ++ (n, said) ∷ [])
plan_taken t ps n line before said few says told =
    with_line_judged (plan_step t ps) n line before few says ∙ rw told refl

pub plan_refused : (t : Types) (ps : Procs) (n : ℕ) (line : List ℕ) (before : List (Row PlanLine)) (why : LineWhy)
    → n ≤ MAX_LINES → is_skipped line ≡ false
    → plan_line t ps (is_host (server_host before)) (words_of line) ≡ Err why
    → with_line (plan_step t ps) n line before ≡ Err (BadLine n why)
plan_refused t ps n line before why few says told =
    with_line_judged (plan_step t ps) n line before few says ∙ rw told refl

pub peer_taken : (t : Types) (ps : Procs) (n : ℕ) (line : List ℕ) (before : List (Row PeerLine)) (said : Said PeerLine)
    → n ≤ MAX_LINES → is_skipped line ≡ false
    → peer_line t ps (has_host (peer_hosts before)) (words_of line) ≡ Ok said
    → with_line (peer_step t ps) n line before ≡ Ok (before ++ (n, said) ∷ [])
peer_taken t ps n line before said few says told =
    with_line_judged (peer_step t ps) n line before few says ∙ rw told refl

pub peer_refused : (t : Types) (ps : Procs) (n : ℕ) (line : List ℕ) (before : List (Row PeerLine)) (why : LineWhy)
    → n ≤ MAX_LINES → is_skipped line ≡ false
    → peer_line t ps (has_host (peer_hosts before)) (words_of line) ≡ Err why
    → with_line (peer_step t ps) n line before ≡ Err (BadLine n why)
peer_refused t ps n line before why few says told =
    with_line_judged (peer_step t ps) n line before few says ∙ rw told refl

-- ---- hosts of lines

or_first : (a b c : Option Host) → option_or (option_or a b) c ≡ option_or a (option_or b c)
or_first None b c = refl
or_first (Some h) b c = refl

or_none : (a : Option Host) → option_or a None ≡ a
or_none None = refl
or_none (Some h) = refl

pub server_host-push : (rs : List (Row PlanLine)) (r : Row PlanLine)
    → server_host (rs ++ r ∷ []) ≡ option_or (server_host rs) (server_in r.1)
server_host-push [] r = or_none (server_in r.1)
server_host-push (q ∷ rs) r =
    ap (option_or (server_in q.1)) (server_host-push rs r)
    ∙ sym (or_first (server_in q.1) (server_host rs) (server_in r.1))

append_none : (hs : List Host) → hs ++ [] ≡ hs
append_none [] = refl
append_none (h ∷ hs) = ap (λ (xs : List Host). h ∷ xs) (append_none hs)

pub peer_hosts-push : (rs : List (Row PeerLine)) (r : Row PeerLine)
    → peer_hosts (rs ++ r ∷ []) ≡ peer_hosts rs ++ peer_in r.1
peer_hosts-push [] r = append_none (peer_in r.1)
peer_hosts-push (q ∷ rs) r =
    ap (λ (hs : List Host). peer_in q.1 ++ hs) (peer_hosts-push rs r)
    ∙ sym (append_assoc (peer_in q.1) (peer_hosts rs) (peer_in r.1))
