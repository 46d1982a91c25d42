pub mod PhaseRows
