-- Lemmas about text that is written through a page to the sink, in two parts, and about what was written before a
-- fault.
use Rattle.std.proofs.Common.{◌≡◌, ℕ, ◌<◌, ◌+◌, ◌-◌, zero, suc, List, [], ◌++◌, Option, Ok, Err, OnOk, refl, sym, ap, ◌∙◌, subst, arith, append_assoc, append-nil}
use Rattle.std.specs.declared.result.Result.{Result}
use Rattle.std.specs.Io.KnownBytes.{Appends}
use Rattle.std.proofs.KnownBytes.{Appends-nil, Appends-trans}
use Rattle.cpe_io.specs.Writes.{BeginsWith, AppendsPrefix}
use Rattle.line_session.specs.Pages.{Pours}
use Rattle.line_session.specs.Table.{rows_text}

pub Pours-none : (held : Option (List ℕ)) (page : List ℕ) → Pours held held page page []
Pours-none held page = record { prefix = []; appends = Appends-nil held; splits = append-nil page }

-- lemma: a text was appended to the page, and nothing was written to the sink
pub Pours-put : (held : Option (List ℕ)) (page page_now text : List ℕ) → page_now ≡ page ++ text → Pours held held page page_now text
Pours-put held page page_now text is = record { prefix = []; appends = Appends-nil held; splits = sym is }

pub Pours-trans : {held held_then held_now : Option (List ℕ)} {page page_then page_now text more : List ℕ}
    → Pours held held_then page page_then text → Pours held_then held_now page_then page_now more → Pours held held_now page page_now (text ++ more)
Pours-trans {held = held} {held_then = held_then} {held_now = held_now} {page = page} {page_now = page_now} {text = text} {more = more} one two = record {
  prefix = one.prefix ++ two.prefix;
  appends = Appends-trans held held_then held_now one.prefix two.prefix one.appends two.appends;
  splits = sym (append_assoc page text more) ∙ ap (λ (l : List ℕ). l ++ more) one.splits ∙ append_assoc one.prefix _ more
      ∙ ap (λ (l : List ℕ). one.prefix ++ l) two.splits ∙ sym (append_assoc one.prefix two.prefix page_now);
}

-- lemma: what was written is a prefix of the page and all text after it
pub Pours-prefix : {held held_now : Option (List ℕ)} {page page_now text : List ℕ} (rest : List ℕ) → Pours held held_now page page_now text → AppendsPrefix held held_now (page ++ (text ++ rest))
Pours-prefix {page = page} {page_now = page_now} {text = text} rest pours = record {
  prefix = pours.prefix;
  appends = pours.appends;
  begins = record {
    rest = page_now ++ rest;
    splits = sym (append_assoc page text rest) ∙ ap (λ (l : List ℕ). l ++ rest) pours.splits ∙ append_assoc pours.prefix page_now rest;
  };
}

-- lemma: after a first part, a fault occurred; what was written is a prefix of the page and all text after it
pub Pours-fault : {held held_then held_now : Option (List ℕ)} {page page_then text : List ℕ} (more rest : List ℕ)
    → Pours held held_then page page_then text → AppendsPrefix held_then held_now (page_then ++ more) → AppendsPrefix held held_now (page ++ ((text ++ more) ++ rest))
Pours-fault {held = held} {held_then = held_then} {held_now = held_now} {page = page} {page_then = page_then} {text = text} more rest pours prefix =
    let begins = prefix.begins in
    record {
      prefix = pours.prefix ++ prefix.prefix;
      appends = Appends-trans held held_then held_now pours.prefix prefix.prefix pours.appends prefix.appends;
      begins = record {
        rest = begins.rest ++ rest;
        splits = sym (append_assoc page (text ++ more) rest) ∙ ap (λ (l : List ℕ). l ++ rest) (
            sym (append_assoc page text more) ∙ ap (λ (l : List ℕ). l ++ more) pours.splits ∙ append_assoc pours.prefix page_then more
            ∙ ap (λ (l : List ℕ). pours.prefix ++ l) begins.splits ∙ sym (append_assoc pours.prefix prefix.prefix begins.rest)
            ) ∙ append_assoc (pours.prefix ++ prefix.prefix) begins.rest rest;
      };
    }

-- lemma: after a first part, a prefix of the rest of the page was written
pub Pours-rest : {held held_then held_now : Option (List ℕ)} {page page_now text : List ℕ} → Pours held held_then page page_now text → AppendsPrefix held_then held_now page_now → AppendsPrefix held held_now (page ++ text)
Pours-rest {held = held} {held_then = held_then} {held_now = held_now} pours prefix = record {
  prefix = pours.prefix ++ prefix.prefix;
  appends = Appends-trans held held_then held_now pours.prefix prefix.prefix pours.appends prefix.appends;
  begins = record {
    rest = prefix.begins.rest;
    splits = pours.splits ∙ ap (λ (l : List ℕ). pours.prefix ++ l) prefix.begins.splits ∙ sym (append_assoc pours.prefix prefix.prefix prefix.begins.rest);
  };
}

module _ {held held_then held_now : Option (List ℕ)} {page page_now text : List ℕ} (pours : Pours held held_then page page_now []) (none : page_now ≡ []) where
  -- lemma: if the whole page was written, and then a text, `Pours` is true of the page and this text
  pub Pours-text : Appends held_then held_now text → Pours held held_now page page_now text
  Pours-text appends =
      let all : page ≡ pours.prefix = sym (append-nil page) ∙ pours.splits ∙ ap (λ (l : List ℕ). pours.prefix ++ l) none ∙ append-nil pours.prefix in
      record {
        prefix = pours.prefix ++ text;
        appends = Appends-trans held held_then held_now pours.prefix text pours.appends appends;
        splits = ap (λ (l : List ℕ). l ++ text) all ∙ sym (append-nil (pours.prefix ++ text)) ∙ ap (λ (l : List ℕ). (pours.prefix ++ text) ++ l) (sym none);
      }

  -- lemma: the whole page was written, and then a prefix of a text
  pub Pours-text_fault : AppendsPrefix held_then held_now text → AppendsPrefix held held_now (page ++ text)
  Pours-text_fault prefix =
      subst (λ (l : List ℕ). AppendsPrefix held held_now (page ++ l)) (append-nil text)
      (Pours-fault text [] pours (subst (λ (l : List ℕ). AppendsPrefix held_then held_now (l ++ text)) (sym none) prefix))

pub where_ok : {T E P Q : Type 0} (result : Result T E) → (P → Q) → OnOk result P → OnOk result Q
where_ok (Ok x) leads p = leads p
where_ok (Err e) leads p = p

-- lemma: the text of the first k rows is a prefix of the text of more rows
rows_more : (row : ℕ → List ℕ) (k d n : ℕ) → n ≡ k + d → BeginsWith (rows_text row n) (rows_text row k)
rows_more row k zero n is =
    let same : n ≡ k = omega (arith, is) in
    subst (λ (m : ℕ). BeginsWith (rows_text row m) (rows_text row k)) (sym same) (record { rest = []; splits = sym (append-nil (rows_text row k)) })
rows_more row k (suc d) n is =
    let begins = rows_more row k d (k + d) refl in
    let same : n ≡ suc (k + d) = omega (arith, is) in
    subst (λ (m : ℕ). BeginsWith (rows_text row m) (rows_text row k)) (sym same) (record {
      rest = begins.rest ++ row (k + d);
      splits = ap (λ (l : List ℕ). l ++ row (k + d)) begins.splits ∙ append_assoc (rows_text row k) begins.rest (row (k + d));
    })

-- lemma: the text of the first k rows and of the next row is a prefix of the text of all rows
rows_split : (row : ℕ → List ℕ) (k n : ℕ) → k < n → BeginsWith (rows_text row n) (rows_text row k ++ row k)
rows_split row k n below = rows_more row (suc k) (n - suc k) n (omega (arith, below))

-- lemma: one more row was written through the page
pub Pours-row : {held held_then held_now : Option (List ℕ)} {page page_then page_now : List ℕ} (row : ℕ → List ℕ) (k : ℕ)
    → Pours held held_then page page_then (rows_text row k) → Pours held_then held_now page_then page_now (row k) → Pours held held_now page page_now (rows_text row (k + 1))
Pours-row {held = held} {held_now = held_now} {page = page} {page_now = page_now} row k one two =
    let next : suc k ≡ k + 1 = omega arith in
    subst (λ (m : ℕ). Pours held held_now page page_now (rows_text row m)) next (Pours-trans one two)

-- lemma: a fault occurred at a row; what was written is a prefix of the page and all rows
pub Pours-row_fault : {held held_then held_now : Option (List ℕ)} {page page_then : List ℕ} (row : ℕ → List ℕ) (k n : ℕ) → k < n
    → Pours held held_then page page_then (rows_text row k) → AppendsPrefix held_then held_now (page_then ++ row k) → AppendsPrefix held held_now (page ++ rows_text row n)
Pours-row_fault {held = held} {held_now = held_now} {page = page} row k n below pours prefix =
    let begins = rows_split row k n below in
    subst (λ (l : List ℕ). AppendsPrefix held held_now (page ++ l)) (sym begins.splits) (Pours-fault (row k) begins.rest pours prefix)
