pub mod RunPromises
pub mod RunMeaning
pub mod HaltingPromises
pub mod ResumePromises
pub mod HeldPromises
pub mod OwnGoals
pub mod SavedPlaces
pub mod SearchPromises
