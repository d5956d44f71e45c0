use Rattle.std.proofs.Common.{◌≡◌, ◌∙◌, ℕ, Bool, List, Result, Ok, IfOk, inl, map, refl, string_bytes, subst, sym}
use Rattle.command_line.specs.Destinations.{destination_of}
use Rattle.command_line.specs.declared.destinations.Destination.{Destination}
use Rattle.command_line.specs.declared.destinations.Destination.TheVariants.{File, Pages, Standard}
use Rattle.flame_tool.specs.Delivery.{IfFile, IfPages, IfStandard}
use Rattle.flame_tool.proofs.delivery.deliver.Goals as goal

-- what was found is what is wanted
found_is : {E : Type 0} (found : Result Destination E) (it wanted shape : Destination) → IfOk found (λ it. it ≡ wanted) → found ≡ Ok it → it ≡ shape → shape ≡ wanted
found_is found it wanted shape same is shaped = sym shaped ∙ subst (λ found. IfOk found (λ it. it ≡ wanted)) is same

of_file : (wanted : Destination) (path : List ℕ) (holds : List ℕ → Type 0) → File path ≡ wanted → holds path → IfFile wanted holds
of_file wanted path holds is here = subst (λ wanted. IfFile wanted holds) is here

of_standard : (wanted : Destination) (is_document : Bool) (holds : Bool → Type 0) → Standard is_document ≡ wanted → holds is_document → IfStandard wanted holds
of_standard wanted is_document holds is here = subst (λ wanted. IfStandard wanted holds) is here

no_file : (wanted : Destination) (is_document : Bool) (holds : List ℕ → Type 0) → Standard is_document ≡ wanted → IfFile wanted holds
no_file wanted is_document holds is = subst (λ wanted. IfFile wanted holds) is tt

no_pages : (wanted : Destination) (is_document : Bool) (holds : Type 0) → Standard is_document ≡ wanted → IfPages wanted holds
no_pages wanted is_document holds is = subst (λ wanted. IfPages wanted holds) is tt

no_standard : (wanted : Destination) (path : List ℕ) (holds : Bool → Type 0) → Pages path ≡ wanted → IfStandard wanted holds
no_standard wanted path holds is = subst (λ wanted. IfStandard wanted holds) is tt

of_pages : (wanted : Destination) (path : List ℕ) (holds : Type 0) → Pages path ≡ wanted → holds → IfPages wanted holds
of_pages wanted path holds is here = subst (λ wanted. IfPages wanted holds) is here

pub returns-in-Ok-Pages-clause-pages : goal.returns-in-Ok-Pages-clause-pages
returns-in-Ok-Pages-clause-pages g c =
    of_pages _ _ _ (found_is _ _ _ _ (rw c.as_slice.ensures.value at c.asked_destination.ensures) c.in-Ok-Pages.is c.in-Ok-Pages.field-0-is) (rw c.as_slice-in-Ok-Pages.ensures.value at c.deliver_pages.ensures)

pub returns-in-Ok-Pages-clause-standard : goal.returns-in-Ok-Pages-clause-standard
returns-in-Ok-Pages-clause-standard g c =
    no_standard _ _ _ (found_is _ _ _ _ (rw c.as_slice.ensures.value at c.asked_destination.ensures) c.in-Ok-Pages.is c.in-Ok-Pages.field-0-is)

pub returns-in-Ok-Pages-clause-terminal : goal.returns-in-Ok-Pages-clause-terminal
returns-in-Ok-Pages-clause-terminal g c =
    no_standard _ _ _ (found_is _ _ _ _ (rw c.as_slice.ensures.value at c.asked_destination.ensures) c.in-Ok-Pages.is c.in-Ok-Pages.field-0-is)

pub returns-in-Ok-File-clause-file : goal.returns-in-Ok-File-clause-file
returns-in-Ok-File-clause-file g c =
    of_file _ _ _ (found_is _ _ _ _ (rw c.as_slice.ensures.value at c.asked_destination.ensures) c.in-Ok-File.is c.in-Ok-File.field-0-is) (rw c.get.ensures at c.deliver_file.ensures)

pub returns-in-Ok-Standard : goal.returns-in-Ok-Standard
returns-in-Ok-Standard g c =
    let is = found_is _ _ (destination_of (map string_bytes c.args.words.items)) _ (rw c.as_slice.ensures.value at c.asked_destination.ensures) c.in-Ok-Standard.is c.in-Ok-Standard.field-0-is in record {
      file = no_file _ _ _ is;
      untouched = no_file _ _ _ is;
      pages = no_pages _ _ _ is;
      paged = no_pages _ _ _ is;
      standard = of_standard _ _ _ is c.deliver_standard.ensures.standard;
      terminal = of_standard _ _ _ is (λ terminal. let refused = c.deliver_standard.ensures.terminal terminal in (inl refused.0, refused.1));
      unplaced = of_standard _ _ _ is refl;
    }
