-- If only memory is taken for an edit, the rows are unchanged.
use Rattle.std.proofs.Common.{◌≡◌, ◌≤◌, ◌∷◌, ◌∙◌, List, [], None, map, refl, sym, ap, subst}
use Rattle.cpe_rows.specs.Accepted.{IsAccepted}
use Rattle.cpe_rows.specs.After.{after}
use Rattle.cpe_rows.specs.Causes.{causes}
use Rattle.cpe_rows.specs.Filling.{Filling}
use Rattle.cpe_rows.specs.Lawful.{IsLawful}
use Rattle.cpe_rows.specs.Rows.{Rows}
use Rattle.cpe_rows.specs.Step.{first_some}
use Rattle.cpe_rows.specs.Verdict.{verdict}
use Rattle.cpe_rows.specs.declared.edit.Edit.{Edit}
use Rattle.cpe_rows.specs.declared.reply.Changed.{Changed}
use Rattle.cpe_rows.specs.cpe_name.Eleven.{Values}
use Rattle.name_index.specs.Table.{Names}
use Rattle.name_index.specs.declared.table.NameId.{NameId}
use Rattle.verdicts.specs.name_registry.Moved.{SameRegistry}
use Rattle.verdicts.specs.name_registry.Registered.{name_in, Registered}
use Rattle.verdicts.specs.Verdicts.{HasVerdicts, known_in, SameStatements, VerdictsNow}
use Rattle.engine_edits.specs.Moved.{SameParts}
use Rattle.engine_edits.specs.Parts.{AreOf, rows_in}
use Rattle.engine_edits.specs.Ready.{edit_ready, HasAll, IsReady, places_of_edit}
use Rattle.engine_edits.specs.declared.parts.EngineParts.{EngineParts}
use Rattle.engine_edits.specs.declared.ready.Ready.{Ready}
use Rattle.engine_edits.proofs.PartsLemmas.{by_lists}

pub same_registry : (r : Registered) → SameRegistry r r
same_registry r = record { table = refl; entries = refl; items = refl }

pub same_verdicts : (v : VerdictsNow) → SameStatements v v
same_verdicts v = record { statements = refl; checks = refl; known = refl }

pub rows_stay : (p q : EngineParts) → SameRegistry p.registry q.registry → SameStatements p.verdicts q.verdicts → rows_in q ≡ rows_in p
rows_stay p q r v = λ k. record { entries = r.entries k; items = r.items k; statements = v.statements k; checks = v.checks k }

pub same_parts : (p q : EngineParts) → SameRegistry p.registry q.registry → SameStatements p.verdicts q.verdicts → q.weight ≡ p.weight → SameParts p q
same_parts p q r v weight = record { rows = rows_stay p q r v; known = v.known; weight = weight }

pub stay_same : (p : EngineParts) → SameParts p p
stay_same p = record { rows = refl; known = refl; weight = refl }

-- registry and verdicts still belong to the rows
pub are_still : (r s : Registered) (v w : VerdictsNow) (rows : Rows) (others : List Values) → SameRegistry r s → HasVerdicts r.table w rows → AreOf r v rows others → AreOf s w rows others
are_still r s v w rows others same present a = by_lists r s w rows others same.table (same.entries ∙ a.entries) (same.items ∙ a.items) a.held present

-- a name that is held besides the rows still has its number
pub named_still : (r s : Registered) (w : VerdictsNow) (rows : Rows) (id : NameId) → SameRegistry r s → AreOf s w rows (name_in r.table id ∷ []) → AreOf s w rows (name_in s.table id ∷ [])
named_still r s w rows id same a = subst (λ (t : Names). AreOf s w rows (name_in t id ∷ [])) (sym same.table) a

-- an edit is ready over the new parts, if only memory was taken
pub ready_over : (p q : EngineParts) (e : Edit) (r : Ready) (room : Filling Changed) → SameParts p q → edit_ready q.registry.table r ≡ e → IsLawful (rows_in p) → IsAccepted (rows_in p) e (after (rows_in p) e)
    → first_some (causes (rows_in p) e) ≡ None → known_in p.verdicts ≡ map (verdict (rows_in p)) (rows_in p).statements → room.list ≡ [] → places_of_edit (rows_in p) e ≤ room.spare → HasAll q r → IsReady q r room
ready_over p q e r room same is lawful accepted none known empty spare all =
    let rows = sym same.rows in
    let d = edit_ready q.registry.table r in
    record {
      lawful = subst IsLawful rows lawful;
      accepted = subst (λ (x : Rows). IsAccepted x d (after x d)) rows (subst (λ (f : Edit). IsAccepted (rows_in p) f (after (rows_in p) f)) (sym is) accepted);
      none = (λ k. first_some (causes (same.rows k) (is k))) ∙ none;
      known = same.known ∙ known ∙ ap (λ (x : Rows). map (verdict x) x.statements) rows;
      empty = empty;
      spare = subst (λ (x : Rows). places_of_edit x d ≤ room.spare) rows (subst (λ (f : Edit). places_of_edit (rows_in p) f ≤ room.spare) (sym is) spare);
      all = all;
    }
