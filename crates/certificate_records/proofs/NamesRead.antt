-- Lemmas: the names of a certificate are read as they are written.
use Rattle.std.proofs.Common.{◌≡◌, ℕ, ◌+◌, List, [], ◌∷◌, true, Some, true≢false, refl, ap, sym, ◌∙◌}
use Rattle.std.specs.Prelude.{Ok, All, option_and_then, option_map}
use Rattle.std.specs.List.{list_all}
use Rattle.std.proofs.lemmas.Bool.{and_parts}
use Rattle.std.proofs.lemmas.List.Elements.{All-head, All-tail}
use Rattle.serde_json.specs.Data.{Data, array}
use Rattle.serde_json.specs.Find.{get, as_array}
use Rattle.cpe_rows.specs.cpe_name.Eleven.{Values}
use Rattle.cpe_rows.specs.cpe_name.Names.{IsName}
use Rattle.cpe_rows.specs.cpe_fs.Grammar.{fs_text}
use Rattle.cpe_uri.specs.EitherBinding.{UriOrFs, read_any}
use Rattle.cpe_rows.specs.Names.{is_lower}
use Rattle.cpe_rows.proofs.NameTests.{is_lower_is}
use Rattle.cpe_records.specs.FirstFault.{◌>>=◌, all_from}
use Rattle.cpe_records.specs.Forms.{list_of_items}
use Rattle.cpe_records.specs.Names.{lowered}
use Rattle.record_writer.specs.Written.{items_by, name_json}
use Rattle.record_writer.proofs.ReadBack.{data_of, data_items}
use Rattle.certificate_records.specs.Reading.{formed, certificate_named, certificate_name, some_whys, names_at}
use Rattle.certificate_records.specs.Whole.{are_named}

-- the reader of names reads each text as the name that has it in one of the bindings
abbrev pub ReadsNames : Type 0
ReadsNames = (w : Values) (s : List ℕ) → UriOrFs w s → read_any s ≡ Ok w

lowered_is : (w : Values) → is_lower w ≡ true → lowered w ≡ w
unfolding lowered
lowered_is w h = (is_lower_is w).0 h

module _ (reads : ReadsNames) where
  name_read : (w : Values) → IsName w → is_lower w ≡ true → certificate_name (data_of (name_json w)) ≡ Ok w
  unfolding name_json
  name_read w name lower = ap certificate_named (reads w (fs_text w) (name, refl)) ∙ ap Ok (lowered_is w lower)

  names_read : (ws : List Values) → All IsName ws → list_all is_lower ws ≡ true → (n : ℕ)
      → all_from (λ k. certificate_name) n (list_of_items (data_items (items_by name_json ws))) ≡ Ok ws
  names_read [] h k n = refl
  names_read (w ∷ ws) h k n =
      let p = and_parts (is_lower w) (list_all is_lower ws) k in
      λ i. name_read w (All-head IsName w ws h) p.0 i >>= λ y. names_read ws (All-tail IsName w ws h) p.1 (n + 1) i >>= λ ys. Ok (y ∷ ys)

  -- lemma: the names in the array at a key
  pub names_there : (key : List ℕ) (d : Data) (ws : List Values) → get key d ≡ Some (array (data_items (items_by name_json ws)))
      → All IsName ws → are_named ws ≡ true → names_at key d ≡ Ok ws
  unfolding names_at
  names_there key d [] at h k = absurd (true≢false (sym k))
  names_there key d (w ∷ ws) at h k =
      ap (λ o. formed (option_map list_of_items (option_and_then as_array o)) >>= λ ds. some_whys ds >>= λ all. all_from (λ k. certificate_name) 1 all) at
      ∙ names_read (w ∷ ws) h k 1
