mod HearingLemmas
mod PassingLemmas
mod SortingLemmas
