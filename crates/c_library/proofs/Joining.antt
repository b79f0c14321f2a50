-- The answers to lines, joined one after the other.
use Rattle.std.proofs.Common.{◌≡◌, ℕ, List, [], ◌∷◌, ◌++◌, Option, refl, sym, ap, ◌∙◌, subst, map, append_assoc}
use Rattle.line_session.specs.cpe_io.Lines.{line_of, lines}
use Rattle.line_session.proofs.cpe_io.LineLemmas.{pieces-cut}
use Rattle.line_session.specs.Task.{Task, Transcript, Says}
use Rattle.c_library.specs.Joined.{AreLines, IsAnswered, answers, bytes_of}
use Rattle.c_library.specs.Talks.{written_before}

lines_of : (said : List (List ℕ × List ℕ)) → AreLines said → lines (bytes_of said) ≡ map (λ (both : List ℕ × List ℕ). line_of both.0) said
lines_of [] are = refl
lines_of (both ∷ more) are =
    ap lines (append_assoc both.0 (10 ∷ []) (bytes_of more))
    ∙ ap (map line_of) (pieces-cut both.0 (bytes_of more) are.0)
    ∙ ap (λ (ls : List (Option (List ℕ))). line_of both.0 ∷ ls) (lines_of more are.1)

behind_both : (a b : List ℕ) (t : Transcript) → written_before a (written_before b t) ≡ written_before (a ++ b) t
behind_both a b t = λ i. record { text = sym (append_assoc a b t.text) i; status = t.status }

joined : (said : List (List ℕ × List ℕ)) (first last : List (Option (List ℕ)) → Transcript) → IsAnswered said first last
    → first (map (λ (both : List ℕ × List ℕ). line_of both.0) said) ≡ written_before (answers said) (last [])
joined [] first last is = is []
joined (both ∷ more) first last is =
    is.1 (map (λ (it : List ℕ × List ℕ). line_of it.0) more)
    ∙ ap (written_before both.1) (joined more is.0 last is.2)
    ∙ behind_both both.1 (answers more) (last [])

pub joined_transcript : (job : Task) (first last : List (Option (List ℕ)) → Transcript) (said : List (List ℕ × List ℕ))
    → ((bytes : List ℕ) → Says job bytes (first (lines bytes))) → AreLines said → IsAnswered said first last
    → Says job (bytes_of said) (written_before (answers said) (last []))
joined_transcript job first last said says are is =
    subst (λ (it : Transcript). Says job (bytes_of said) it) (ap first (lines_of said are) ∙ joined said first last is) (says (bytes_of said))
