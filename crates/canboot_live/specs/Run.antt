-- What the live run of a network list does.
use Rattle.std.specs.Prelude.{◌≡◌, ◌⊎◌, ℕ, Bool, List, [], Option, None, Some, length, map}
use Rattle.std.specs.Io.KnownBytes.{Appends}
use Rattle.cm_nmt.specs.declared.frame.Frame.{Frame}
use Rattle.cm_netlist.specs.Network.{Network, listing}
use Rattle.cm_format.specs.Text.{JournalView, journal_of, text}
use Rattle.cm_format.specs.declared.version.Version.TheVariants.{Two}
use Rattle.cm_format.specs.Journals.{IsJournal}
use Rattle.cm_history.specs.declared.call.Entry.{Entry}
use Rattle.cm_history.specs.OrderFrames.{frames_in}
use Rattle.cm_bus.specs.Outlets.{IsWell, SendsMessages}
use Rattle.cm_bus.specs.Sent.{AreWrittenFrom, HasWritten, had_by}
use Rattle.cm_can.specs.Requests.{IsErrorControlFrame, IsToNode}
use Rattle.cm_bus.specs.declared.outlet.Outlet.{Outlet}
use Rattle.cm_format.specs.Unended.{unended_text}
pub use Rattle.cm_text.specs.Fronts.{AppendsIfThere, IsWritten}
pub use Rattle.cm_format.specs.Runs.{IsRun, IsRunOn, IsOfNoMaster, RefusesRun}
use Rattle.cm_report.specs.declared.report_form.ReportForm.{ReportForm}
use Rattle.cm_report.specs.ReportForms.{report_in}
use Rattle.cm_crew.specs.Heard.{IsAllHeard}
use Rattle.cm_crew.specs.Operated.{IsOperatedLive, operator_calls}
use Rattle.cm_bus.specs.declared.options.LiveOptions.{LiveOptions}
use Rattle.canboot_turns.specs.Driven.{IsDriven}
use Rattle.cm_can.specs.declared.format.Format.{Format}

-- of the text of the journal of this history the beginning was written, and all of it where no write has failed
abbrev pub WritesJournal : Network → ℕ → ℕ → List Entry → Option (Option (List ℕ)) → Option (Option (List ℕ)) → Bool → Type 0
WritesJournal net seats limit entries journal journal' failed =
    IsWritten journal journal' failed (text (journal_of Two net seats limit entries))

-- of the text of a journal of this network the beginning was written, and all of it, but for its last line, where no write has
-- failed: its entries are a legal history; and of this history just the frames were sent
pub record Begins (net : Network) (seats limit : ℕ) (journal journal' : Option (Option (List ℕ)))
    (failed : Bool) (Sends : List Frame → Type 0) : Type 0 where
  pub entries : List Entry
  pub legal : IsJournal (journal_of Two net seats limit entries)
  pub recorded : IsWritten journal journal' failed (unended_text (journal_of Two net seats limit entries))
  pub sent : Sends (frames_in (listing net) entries)

-- nothing was written and no frame was sent, or the journal of such a history was begun
abbrev pub KeptOrBegins : {A : Type 0} → Network → ℕ → ℕ → (A → Option (Option (List ℕ))) → A → A
    → (A → Bool) → (List Frame → Type 0) → Type 0
KeptOrBegins net seats limit contents journal journal' failed Sends =
    ((journal' ≡ journal) × Sends []) ⊎ Begins net seats limit (contents journal) (contents journal') (failed journal') Sends

module _ {W : Type 0} (contents : W → Option (List ℕ)) (format : Format) (received typed : Option (List ℕ)) where
  -- a live run that ended in order: of the legal history of such a journal just the report was written, to the
  -- journal's output, if there is one, just the text of that journal, and to the outlet of messages, of which no write has
  -- failed, just the lines of that history's frames; in it each report whose orders start a slave has the slave's identity
  -- among the frames that stand in what the reader of received frames held; seat 1, which has started the network, has made just the calls
  -- that were typed, by lines in what the reader of typed lines held, in their order, and those of the watch's steps, by what it was told,
  -- each error control message by a line among what was received; and every other seat has made the calls of boots alone
  pub record RunsLiveOf (options : LiveOptions) (Is : JournalView → Type 0) (report : ReportForm) (output output' : Option (List ℕ)) (journal journal' : Option (Option (List ℕ)))
      (messages messages' : Option (Outlet W)) : Type 0 where
    pub of : JournalView
    pub run : Is of
    pub heard : IsAllHeard format received of.network of.seats of.entries
    pub operated : IsOperatedLive typed of.entries
    pub driven : IsDriven format received typed of.network options (operator_calls of.entries)
    pub reported : Appends output output' (report_in report of.network of.entries)
    pub recorded : AppendsIfThere journal journal' (text of)
    pub sent : SendsMessages contents (frames_in (listing of.network) of.entries) messages messages'
    pub well : IsWell messages'

  -- the same of a journal of the list that the input was
  abbrev pub RunsLive : LiveOptions → ReportForm → ℕ → ℕ → Option (List ℕ) → Option (List ℕ) → Option (List ℕ) → Option (List ℕ)
      → Option (Option (List ℕ)) → Option (Option (List ℕ)) → Option (Outlet W) → Option (Outlet W) → Type 0
  RunsLive options report workers limit input input' output output' journal journal' messages messages' =
      RunsLiveOf options (IsRun workers limit input input') report output output' journal journal' messages messages'

  -- of such a journal of a live run, whose history is legal, the beginning of the text was written to its output, if there is one,
  -- and all of it where no write has failed, but for its last line where the history isn't closed; where it is, the identity
  -- of each slave that a report started was heard so, and the calls of seat 1 were typed so, or are such as the watch makes; and just the
  -- frames of this history were sent
  pub record RecordsLive (Is : JournalView → Type 0) (journal journal' : Option (Option (List ℕ))) (failed : Bool)
      (messages messages' : Option (Outlet W)) : Type 0 where
    pub of : JournalView
    pub run : Is of
    pub recorded : (IsWritten journal journal' failed (text of) × IsAllHeard format received of.network of.seats of.entries
        × IsOperatedLive typed of.entries)
        ⊎ IsWritten journal journal' failed (unended_text of)
    pub sent : SendsMessages contents (frames_in (listing of.network) of.entries) messages messages'

  -- no message was sent
  abbrev pub SendsNothing : Option (Outlet W) → Option (Outlet W) → Type 0
  SendsNothing messages messages' = (messages' ≡ messages) ⊎ SendsMessages contents [] messages messages'

  -- nothing was written or sent; or the beginning of such a journal of a live run, just whose frames were sent
  abbrev pub FailsToLiveOf : (JournalView → Type 0) → Option (List ℕ) → Option (List ℕ) → Option (Option (List ℕ)) → Option (Option (List ℕ)) → Bool
      → Option (Outlet W) → Option (Outlet W) → Type 0
  FailsToLiveOf Is output output' journal journal' failed messages messages' =
      ((output' ≡ output) × (journal' ≡ journal) × SendsNothing messages messages')
      ⊎ RecordsLive Is journal journal' failed messages messages'

  -- the same of a journal of the list that the input was
  abbrev pub FailsToLive : ℕ → ℕ → Option (List ℕ) → Option (List ℕ) → Option (List ℕ) → Option (List ℕ)
      → Option (Option (List ℕ)) → Option (Option (List ℕ)) → Bool
      → Option (Outlet W) → Option (Outlet W) → Type 0
  FailsToLive workers limit input input' output output' journal journal' failed messages messages' =
      FailsToLiveOf (IsRun workers limit input input') output output' journal journal' failed messages messages'

-- by the outlets of the workers, as many as said, just requests to nodes were written behind what their writers had, and by the outlet
-- of error control just its own frames: lines of them, the last of which may be its first bytes where a write has failed
pub record SendsBeside {W : Type 0} (contents : W → Option (List ℕ)) (format : Format) (had : Option ℕ → Option (List ℕ)) (workers : ℕ)
    (requests : List (Outlet W)) (error_control : Option (Outlet W)) : Type 0 where
  pub requested : AreWrittenFrom IsToNode contents format had 0 requests
  pub all : length requests ≡ workers
  pub controlling : Outlet W
  pub there : error_control ≡ Some controlling
  pub controlled : HasWritten IsErrorControlFrame contents format (had None) controlling

-- so it is of what these writers had
abbrev pub SendsBesideOf : {W : Type 0} → (W → Option (List ℕ)) → Format → W → List W → ℕ → List (Outlet W) → Option (Outlet W) → Type 0
SendsBesideOf contents format control writers workers requests error_control =
    SendsBeside contents format (had_by (contents control) (map contents writers)) workers requests error_control

-- and so, or none of these outlets came back
abbrev pub SendsBesideOrKeeps : {W V : Type 0} → (W → Option (List ℕ)) → Format → W → List W → ℕ → (V → List (Outlet W)) → V → V
    → Option (Outlet W) → Option (Outlet W) → Type 0
SendsBesideOrKeeps contents format control writers workers items requests requests' error_control error_control' =
    SendsBesideOf contents format control writers workers (items requests') error_control'
    ⊎ ((requests' ≡ requests) × (error_control' ≡ error_control))
